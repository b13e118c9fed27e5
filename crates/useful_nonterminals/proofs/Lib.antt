pub mod DrawLemmas
pub mod RuleLemmas
pub mod ProductiveLemmas
mod Examples
pub mod NamingLemmas
pub mod ProductionLemmas
pub mod TrimLemmas
