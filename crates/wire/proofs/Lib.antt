-- The laws of the proofs of this crate.
pub mod Copies
pub mod Overlaid
pub mod Numbers
pub mod Pairs
pub mod Dots
pub mod TwoWords
pub mod WordLow
