pub mod Splits
pub mod Walks
