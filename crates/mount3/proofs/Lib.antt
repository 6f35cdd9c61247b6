pub mod Fitting
pub mod Short
pub mod Sent
pub mod Tested
pub mod Answered
