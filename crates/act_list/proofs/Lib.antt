pub mod Runs
pub mod Sent
pub mod Writable
