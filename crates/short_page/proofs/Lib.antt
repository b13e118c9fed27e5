pub mod TextLemmas
pub mod PageLemmas
