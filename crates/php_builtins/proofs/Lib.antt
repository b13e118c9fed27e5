pub mod PieceLemmas
pub mod CopiesLemmas
pub mod TrimLemmas
pub mod ListLemmas
pub mod IntvalLemmas
pub mod JoiningLemmas
pub mod CountLemmas
