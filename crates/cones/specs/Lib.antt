pub mod Cones
pub mod Lists
pub mod Sure
pub mod Table
