pub mod Decimals
pub mod Opaque
