pub mod Sheet
pub mod Open
pub mod Write
pub mod Claims
