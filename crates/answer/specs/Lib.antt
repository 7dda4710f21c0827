pub mod Refusal
pub mod Search
pub mod Answer
pub mod Chain
pub mod Buffer
