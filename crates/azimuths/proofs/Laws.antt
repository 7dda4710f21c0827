-- Laws of the definitions of specs/, a file for each topic.
pub mod Part
pub mod Quarter
pub mod Seen
pub mod Facing
pub mod Frame
pub mod Across
pub mod Azimuth
pub mod Plane
pub mod Sides
pub mod Sectors
pub mod SectorsTo
pub mod Ranges
