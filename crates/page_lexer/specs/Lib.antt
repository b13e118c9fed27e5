pub mod Lexing
pub mod Numbered
