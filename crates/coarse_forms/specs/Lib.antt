pub mod CoarseForms
pub mod Languages
pub mod Laws
