pub mod Found
pub mod Tree
pub mod Verdict
pub mod Format
