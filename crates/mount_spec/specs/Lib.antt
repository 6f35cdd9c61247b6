-- MOUNT version 3, from a path and the mount table up to the entry; each file names what it stands on.
pub mod Path
pub mod Table
pub mod Arguments
pub mod Procedures
pub mod Replies
pub mod Serve
