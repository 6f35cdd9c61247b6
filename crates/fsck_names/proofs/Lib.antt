pub mod NameLength
pub mod Padded
pub mod Joins
pub mod Same
pub mod Chained
pub mod Parents
pub mod Whole
