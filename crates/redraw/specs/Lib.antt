pub mod Redraw
pub mod Examples
pub mod Claims
pub mod PairClaims
