pub mod Laws
pub mod Held
pub mod Bits
pub mod Visits
pub mod Refusals
pub mod Joined
pub mod Octant
pub mod Claims
