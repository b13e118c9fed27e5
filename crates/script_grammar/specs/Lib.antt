pub mod Expressions
pub mod Grammar
pub mod Operators
pub mod Reserved
pub mod Rules
pub mod Statements
pub mod Terminals
