pub mod AreGood
pub mod Examples
