pub mod Blocks
pub mod Ready
