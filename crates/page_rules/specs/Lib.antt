pub mod Takes
pub mod Tests
pub mod Views
pub mod ValueTests
pub mod Found
