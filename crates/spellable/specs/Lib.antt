pub mod Marks
pub mod Spellable
