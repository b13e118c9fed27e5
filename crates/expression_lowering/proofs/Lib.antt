pub mod RowEmits
pub mod CallLemmas
pub mod RowLemmas
pub mod SmallLemmas
