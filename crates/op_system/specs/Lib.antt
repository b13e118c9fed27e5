pub mod Rel
pub mod OpBytes
pub mod Size
pub mod Rules
