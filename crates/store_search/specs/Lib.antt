pub mod Found
pub mod Parents
