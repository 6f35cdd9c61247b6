pub mod Digest
pub mod Rows
