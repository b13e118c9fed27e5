pub mod Languages
pub mod Readers
pub mod Reads
pub mod Insides
