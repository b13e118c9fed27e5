pub mod Short
pub mod Added
pub mod Arms
pub mod Bodies
