pub mod Setting
pub mod Paths
pub mod Faults
