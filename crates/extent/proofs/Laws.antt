pub mod Told
pub mod Frames
pub mod Held
