pub mod Stopped
pub mod Admitted
