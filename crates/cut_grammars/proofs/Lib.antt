mod MoveLemmas
pub mod CountLemmas
