pub mod Found
pub mod Few
pub mod Writable
