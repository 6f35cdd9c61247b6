pub mod ClearedBlocks
pub mod ClearedTail
pub mod WrittenFile
