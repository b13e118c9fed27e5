mod SameLemmas
pub mod JoinLemmas
