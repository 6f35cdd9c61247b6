pub mod Room
pub mod Links
