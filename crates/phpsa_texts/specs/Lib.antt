pub mod Statuses
pub mod Shown
pub mod Texts
pub mod JsonAnswers
