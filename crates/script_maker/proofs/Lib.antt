pub mod Pieces
mod Examples
