pub mod Sides
pub mod Extent
pub mod Boxes
pub mod Claims
