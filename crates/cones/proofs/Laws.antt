-- Laws of the definitions of specs/, a file for each topic.
pub mod Covers
pub mod Coincident
pub mod Pushed
pub mod Split
pub mod Index
pub mod Near
pub mod Close
