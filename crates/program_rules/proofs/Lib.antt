mod Agreement
mod Examples
pub mod PathLemmas
