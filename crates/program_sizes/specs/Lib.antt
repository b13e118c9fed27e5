pub mod Limits
pub mod Sizes
pub mod Bodies
pub mod FileRules
pub mod Loaded
