pub mod Reading
pub mod Same
pub mod PagesRead
pub mod Forms
pub mod Cuts
pub mod Runs
pub mod StartLemmas
pub mod Pushing
