pub mod Height
pub mod Spelling
pub mod Tokens
pub mod Trees
