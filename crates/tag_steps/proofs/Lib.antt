pub mod EndTags
pub mod StartTags
