-- Numbers that the compiler reads and writes at once.
pub mod LowFirst
pub mod Hash
