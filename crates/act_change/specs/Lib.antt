pub mod Makable
