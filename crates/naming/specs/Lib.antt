pub mod Columns
pub mod Listing
pub mod Answers
pub mod Members
pub mod Tables
