pub mod Front
pub mod Lengthened
pub mod Outcome
