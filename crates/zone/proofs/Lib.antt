pub mod Laws
pub mod Claims
pub mod Chosen
pub mod Octant
