pub mod NameLemmas
pub mod TableLemmas
pub mod CallLemmas
pub mod NumberLemmas
pub mod ArgumentLemmas
