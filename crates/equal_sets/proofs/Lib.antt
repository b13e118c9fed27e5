pub mod ForwardLemmas
pub mod BackLemmas
pub mod TextLemmas
pub mod SetLemmas
pub mod RowLemmas
pub mod WrittenLemmas
