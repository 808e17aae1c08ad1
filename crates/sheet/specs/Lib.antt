pub mod Walk
pub mod Answers
