-- Readers that read the same whatever padding is: one law for each way to build a reader, opaque data, the header and the arguments.
pub mod ReadsAlike
pub mod Opaque
pub mod Readers
-- Calls that differ in padding: their outcome, the book, and lists of requests.
pub mod Padding
-- The fields of some calls, by computation.
pub mod Examples
