pub mod Actions
pub mod Machine
pub mod Postfix
pub mod Values
pub mod Reading
