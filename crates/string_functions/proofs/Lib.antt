mod Examples
pub mod Members
pub mod PiecesLaws
pub mod JoinLaws
pub mod BytewiseLaws
pub mod EndsLaws
pub mod LeftmostLaws
pub mod BorderLemmas
pub mod FailureLemmas
pub mod PlaceLemmas
