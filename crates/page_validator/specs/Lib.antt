pub mod Faults
pub mod Walks
pub mod Laws
pub mod Machine
pub mod Views
