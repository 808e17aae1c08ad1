pub mod Joining
pub mod Numbers
pub mod Cells
pub mod Cases
