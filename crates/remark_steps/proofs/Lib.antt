mod Tests
pub mod Comments
pub mod Sections
pub mod Instructions
