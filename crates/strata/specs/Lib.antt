pub mod Lent
pub mod Family
pub mod Words
pub mod Pair
pub mod Sums
pub mod Answers
