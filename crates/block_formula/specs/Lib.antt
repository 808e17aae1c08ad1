pub mod Text
pub mod Plots
pub mod Answers
