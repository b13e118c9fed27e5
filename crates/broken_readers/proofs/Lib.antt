pub mod Telling
pub mod Finding
mod StartLemmas
mod KeptLemmas
