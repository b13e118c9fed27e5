pub mod Rules
pub mod Visits
pub mod Adding
pub mod Exactness
pub mod Charts
pub mod Kept
