-- Laws of the definitions in specs/, a file for each topic: Fields (one field, the five and the sixth), Front (the sheet
-- in front of some bytes, refused), Same (which bytes the fields go by), Parts (what the checks hand on).
pub mod Fields
pub mod Front
pub mod Same
pub mod Parts
