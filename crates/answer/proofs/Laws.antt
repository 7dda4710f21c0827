-- Laws of the definitions of specs/, a file for each topic: Search, First, Blocks, Sum (searching, counting and summing
-- by index), Chain (chains of checks), Numbers (the numbers that they may refuse with).
pub mod Search
pub mod First
pub mod Blocks
pub mod Sum
pub mod Chain
pub mod Numbers
