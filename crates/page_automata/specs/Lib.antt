pub mod Laws
pub mod PageAutomaton
pub mod Whole
