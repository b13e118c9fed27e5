pub mod Views
pub mod TokenViews
