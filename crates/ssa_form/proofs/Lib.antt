pub mod AnewLemmas
pub mod BehindLemmas
pub mod EdgeLemmas
pub mod ExactLemmas
pub mod HeadLemmas
pub mod JoinLemmas
pub mod JoinRowLemmas
pub mod MarkLemmas
pub mod ReadLemmas
pub mod RemakingLemmas
pub mod ReplacingLemmas
pub mod RowLemmas
pub mod ThroughLemmas
mod FewLemmas
mod GraphLemmas
