pub mod Copies
pub mod Hyper
pub mod Runs
