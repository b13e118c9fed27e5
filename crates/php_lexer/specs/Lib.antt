pub mod View
pub mod Rows
pub mod Templates
pub mod Heredocs
pub mod Refusals
pub mod Leads
