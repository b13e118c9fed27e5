pub mod Numbers
pub mod Making
pub mod Classes
pub mod Words
pub mod Quotes
pub mod Kept
