pub mod Tests
