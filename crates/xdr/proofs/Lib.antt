pub mod Fields
pub mod Wrote
