mod RowLemmas
pub mod ReadingLemmas
