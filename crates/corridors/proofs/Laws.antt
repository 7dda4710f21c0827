-- Laws of the definitions of specs/: Off (edges that are passed, and how many are counted), Marked (marks of edges).
pub mod Off
pub mod Marked
