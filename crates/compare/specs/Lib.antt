pub mod Ring
pub mod Differences
pub mod Comparison
pub mod Claims
