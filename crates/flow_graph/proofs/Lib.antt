pub mod ArrivalLemmas
pub mod HeadLemmas
pub mod NumberLemmas
pub mod StepLemmas
pub mod RowLemmas
pub mod PairLemmas
pub mod GroupLemmas
pub mod FoundLemmas
