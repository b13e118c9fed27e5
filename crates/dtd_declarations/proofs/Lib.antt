pub mod Passing
pub mod Models
pub mod Letters
pub mod Numbers
pub mod TokenRows
