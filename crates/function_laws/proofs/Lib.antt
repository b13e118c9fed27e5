pub mod Texts
pub mod Numbers
pub mod Arrays
pub mod Functions
pub mod LawLemmas
pub mod NumeralLemmas
