pub mod ResizedNumbers
pub mod Resized
pub mod Same
pub mod SizeWritten
