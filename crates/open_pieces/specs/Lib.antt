pub mod Lists
pub mod ValueExactness
pub mod AttributeExactness
pub mod DoctypeExactness
pub mod OpenExactness
pub mod StateExactness
pub mod Views
