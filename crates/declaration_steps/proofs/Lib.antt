mod Words
pub mod Declarations
