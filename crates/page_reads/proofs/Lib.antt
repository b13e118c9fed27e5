mod Bodies
mod Forward
mod Backward
pub mod All
