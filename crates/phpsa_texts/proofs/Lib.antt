mod Examples
mod JsonExamples
pub mod Printing
