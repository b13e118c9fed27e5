pub mod Labels
pub mod Automaton
pub mod Trees
pub mod Sum
pub mod Fits
pub mod Nesting
pub mod Laws
