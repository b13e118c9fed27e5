pub mod ParsedLemmas
pub mod TextLemmas
pub mod KeyLemmas
pub mod ArrayLemmas
pub mod PlaceLemmas
pub mod AdmittedLemmas
pub mod OrderLemmas
pub mod StrayLemmas
mod Examples
mod Empty
