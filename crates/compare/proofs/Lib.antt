pub mod Laws
pub mod RingClaims
pub mod Fields
pub mod Claims
