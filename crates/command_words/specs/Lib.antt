pub mod Program
pub mod Asked
pub mod Canonical
pub mod Views
pub mod RowViews
