pub mod Tables
pub mod Associativity
pub mod Units
pub mod Trees
pub mod NestLemmas
mod Examples
