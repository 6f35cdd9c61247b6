-- The laws of the proofs of this crate.
pub mod RowTests
pub mod Same
pub mod Whole
