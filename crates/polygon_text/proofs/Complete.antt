-- Every polygon's text is read, and its positions are found: from the byte up to the object.
pub mod Literal
pub mod Steps
pub mod Numerals
pub mod Rings
pub mod Objects
