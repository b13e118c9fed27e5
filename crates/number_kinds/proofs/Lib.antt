pub mod RowLemmas
mod Told
pub mod KindLemmas
