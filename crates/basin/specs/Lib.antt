pub mod Shared
pub mod Pairs
pub mod Basin
pub mod Claims
