-- Laws of the definitions of specs/: Disjunction (tests joined by 'or'); Meeting, Flat, Shared, Beyond (two edges);
-- Paired, FirstPair (the search over pairs); Apart, Offending (the edges of a polygon that passed lines 10 to 14),
-- Near (those that a scan passes).
pub mod Disjunction
pub mod Meeting
pub mod Flat
pub mod Shared
pub mod Beyond
pub mod Paired
pub mod FirstPair
pub mod Apart
pub mod Offending
pub mod Near
