pub mod Series
pub mod Angle
pub mod Float
pub mod Point
pub mod Claims
