pub mod Requests
pub mod Runs
pub mod Programs
pub mod Expressions
pub mod Statements
pub mod Meaning
pub mod Quiet
pub mod Literals
