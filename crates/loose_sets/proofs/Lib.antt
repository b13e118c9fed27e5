mod Examples
mod ExampleWords
mod ValueExamples
mod ArrayExamples
mod WorkExamples
mod PrintExamples
mod EntryExamples
mod CycleExamples
pub mod Exact
pub mod Returned
pub mod Handed
pub mod Nulls
pub mod Lists
pub mod Placed
pub mod Sourced
pub mod Carried
pub mod OfVersions
