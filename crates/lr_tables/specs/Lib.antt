pub mod Grammars
pub mod Machine
pub mod Certificates
pub mod Checks
pub mod FrontChecks
pub mod Laws
pub mod Values
