pub mod Files
pub mod Together
