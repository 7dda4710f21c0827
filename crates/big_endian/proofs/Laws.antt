-- Laws of the definitions in specs/Bytes, a file for each topic: Signed (two's complement), Rows (decoding a row),
-- Stores (storing one), RowBytes (rows of bytes of one width), Written (what was written is read), Kept (what was read is written).
pub mod Signed
pub mod Rows
pub mod Stores
pub mod RowBytes
pub mod Written
pub mod Kept
