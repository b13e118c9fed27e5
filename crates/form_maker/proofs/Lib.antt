pub mod Holding
pub mod Members
pub mod FixedValues
pub mod Before
pub mod Attributes
pub mod BehindNames
pub mod Keeping
