pub mod Causes
pub mod Table
pub mod Arguments
