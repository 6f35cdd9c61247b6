pub mod Passes
pub mod Marks
pub mod Whole
