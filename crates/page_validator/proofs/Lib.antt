pub mod Scalars
pub mod Steps
pub mod Accepted
pub mod Rooted
pub mod Accepting
