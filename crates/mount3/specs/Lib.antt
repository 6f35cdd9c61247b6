pub mod Answers
pub mod Opens
pub mod Sends
