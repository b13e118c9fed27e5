pub mod Steps
pub mod Ends
pub mod Has
pub mod Names
pub mod Frames
pub mod Codes
pub mod Writes
pub mod Literals
pub mod BuiltinValues
pub mod Calls
pub mod Items
pub mod Agreement
pub mod Trees
pub mod Leaving
pub mod Blocks
pub mod Loops
pub mod Stmts
pub mod Program
pub mod FitCodes
pub mod FitBuiltins
pub mod FitWrites
pub mod FitTrees
pub mod FitBlocks
pub mod FitProgram
mod Fitting
mod Bounds
pub mod Keys
