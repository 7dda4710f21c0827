pub mod Query
pub mod Outline
pub mod Packed
pub mod Writing
pub mod Reading
pub mod Claims
pub mod Meanings
