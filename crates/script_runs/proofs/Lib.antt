pub mod UnitRuns
pub mod BindLemmas
pub mod UnitLemmas
pub mod SettleLemmas
pub mod PayLemmas
pub mod HeadLemmas
pub mod BeginLemmas
pub mod GiveLemmas
