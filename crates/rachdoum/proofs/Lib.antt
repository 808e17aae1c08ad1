pub mod Pasting
pub mod Few
pub mod Sizes
