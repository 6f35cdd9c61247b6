pub mod Numbers
pub mod Layout
pub mod Objects
pub mod Reading
pub mod BlockNumbers
pub mod Mount
