pub mod Looking
pub mod Staying
pub mod Reasons
pub mod Answering
pub mod Cutting
pub mod Objects
mod Examples
