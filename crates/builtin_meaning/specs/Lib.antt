pub mod Names
pub mod Arity
pub mod Arguments
pub mod Values
