mod Examples
pub mod OutputBytes
