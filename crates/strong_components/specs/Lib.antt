pub mod Edges
pub mod Components
pub mod Search
pub mod Opening
pub mod Walk
