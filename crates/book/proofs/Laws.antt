-- Laws of the definitions in specs/, a file for each topic: Steps (one step), Splits (the walk), Masks (sets zone by
-- zone), Zones (a zone's answer), Walked (the loop of `which`).
pub mod Steps
pub mod Splits
pub mod Masks
pub mod Zones
pub mod Walked
