pub mod Scan
pub mod Import
