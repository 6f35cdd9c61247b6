pub mod Told
pub mod Objects
