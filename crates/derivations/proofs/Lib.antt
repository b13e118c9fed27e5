pub mod Derivations
pub mod Pushes
pub mod ForkLemmas
pub mod PieceLemmas
pub mod StackLemmas
pub mod WriteLemmas
mod Examples
pub mod GrammarWriteLemmas
