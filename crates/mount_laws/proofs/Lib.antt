-- The laws of the rows of a mount table, of its check, and of the paths that are read from calls.
pub mod Rows
pub mod Puts
pub mod Pairs
pub mod Good
pub mod Checked
pub mod Paths
-- Examples of the table and of the entry, by computation.
pub mod Tables
pub mod Entry
