pub mod Names
pub mod RequestFile
pub mod Admission
pub mod Outcome
pub mod Causes
pub mod Laws
pub mod RequestCode
