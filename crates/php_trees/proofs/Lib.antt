pub mod OneTree
pub mod Examples
mod Forms
