pub mod RowLemmas
pub mod NodeLemmas
pub mod TemplateLemmas
pub mod CountedLemmas
