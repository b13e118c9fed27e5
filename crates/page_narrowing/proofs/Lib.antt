pub mod Narrow
mod Examples
