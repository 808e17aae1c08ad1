mod Asked
pub mod Numbered
