pub mod PartsLemmas
pub mod NumeralLemmas
pub mod CanonicalLemmas
pub mod DecimalLemmas
pub mod TrimLemmas
pub mod SignLemmas
pub mod NumberLemmas
pub mod NumericLaws
mod Examples
pub mod IdentityLemmas
pub mod SameKeys
