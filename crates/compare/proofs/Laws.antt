-- Laws of the definitions in specs/, a file for each topic: Found (searches by the library's methods), Ring (a ring in
-- bytes, and round it), Noted (the fields that differ, one by one), Sheets (what an accepted sheet's points are known to
-- be).
pub mod Found
pub mod Ring
pub mod Noted
pub mod Sheets
