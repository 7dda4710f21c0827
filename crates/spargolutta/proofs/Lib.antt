pub mod Handed
pub mod Wrote
pub mod Listed
pub mod Read
pub mod Claims
pub mod Texts
