pub mod Emits
pub mod View
pub mod Forms
pub mod ScopeView
pub mod Drafts
pub mod Blocks
