pub mod Counted
pub mod Entry
pub mod Named
pub mod Parents
