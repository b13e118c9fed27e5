pub mod Parts
pub mod Written
pub mod Forms
pub mod Rights
pub mod Steps
pub mod Sizes
pub mod Drafts
pub mod Systems
