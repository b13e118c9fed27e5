pub mod LooseForms
pub mod Laws
