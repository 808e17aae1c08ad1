mod NumberTable
pub mod Codes
pub mod Joining
pub mod CellTable
pub mod Listing
pub mod CellSums
pub mod Nesting
