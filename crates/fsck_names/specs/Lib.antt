pub mod Record
pub mod Distinct
pub mod Named
pub mod Names
