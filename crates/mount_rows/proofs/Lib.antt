pub mod Pairs
pub mod Written
