-- Laws of the definitions in specs/, a file for each topic: Room (scratch space for boxes), Feeds (how a feed ends),
-- Candidates (choosing from bytes).
pub mod Room
pub mod Feeds
pub mod Candidates
