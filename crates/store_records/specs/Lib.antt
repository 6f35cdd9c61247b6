pub mod Text
pub mod Shaped
