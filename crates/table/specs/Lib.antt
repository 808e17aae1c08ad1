pub mod Names
pub mod Answers
pub mod Designs
pub mod Found
pub mod Skeletons
