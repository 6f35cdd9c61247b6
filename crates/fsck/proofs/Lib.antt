pub mod Shapes
pub mod Steps
pub mod Verdict
pub mod Laid
pub mod Filled
