pub mod Forms
pub mod Bytes
pub mod Integers
pub mod Sets
pub mod Simulations
pub mod Systems
