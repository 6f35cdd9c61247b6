pub mod Meaning
pub mod Writable
pub mod Does
