pub mod Examples
mod MiniLemmas
pub mod Views
