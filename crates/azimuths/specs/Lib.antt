pub mod Azimuth
pub mod Sectors
