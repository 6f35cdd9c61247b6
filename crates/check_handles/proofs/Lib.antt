pub mod Reach
pub mod Shown
pub mod NameBytes
