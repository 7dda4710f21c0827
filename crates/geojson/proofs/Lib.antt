pub mod Laws
pub mod Loop
pub mod Cut
pub mod Imports
