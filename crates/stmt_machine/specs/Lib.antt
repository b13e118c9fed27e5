pub mod Actions
pub mod Machine
pub mod Postfix
pub mod Made
pub mod Reading
