pub mod Boxes
pub mod Arc
pub mod Scan
pub mod Spans
pub mod Walk
pub mod Border
pub mod Claims
