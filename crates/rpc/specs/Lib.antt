pub mod Meaning
pub mod Admits
