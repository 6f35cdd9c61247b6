-- The proofs of the statements on the mount table and on mounted handles.
pub mod Tables
pub mod Edits
pub mod Lists
pub mod Replies
pub mod Points
pub mod Outcomes
pub mod Steps
pub mod Kept
pub mod Mounted
