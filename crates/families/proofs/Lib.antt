pub mod Lent
pub mod Counted
pub mod InOrder
