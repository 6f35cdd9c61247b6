pub mod Short
pub mod Sent
