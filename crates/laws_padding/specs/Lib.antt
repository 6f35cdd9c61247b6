-- The fields of opaque data that are read of a call, and calls that differ only in the padding behind them.
pub mod Fields
pub mod Alike
