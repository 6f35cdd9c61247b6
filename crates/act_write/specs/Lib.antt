pub mod MayWrite
