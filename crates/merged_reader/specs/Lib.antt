pub mod Alike
pub mod Numbers
pub mod NumbersInMemory
pub mod Merging
pub mod States
pub mod Laws
