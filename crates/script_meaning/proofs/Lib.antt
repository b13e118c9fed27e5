mod Examples
mod Later
mod LaterParts
mod LaterRuns
mod More
mod MoreRuns
mod Keeps
pub mod Loops
pub mod FormLemmas
