-- Laws of the definitions in specs/, a file for each topic: Points (vertices where they stand in bytes), Stores (the
-- bytes of a sheet, stored), Accepted (what the checks tell of a list and its points), Bodies (one field, written and
-- read), Second (the sixth, written and read), Written (the bytes of a sheet, read), Kept (a sheet that was read,
-- written), Numbers (the numbers of refusals), Reads (what reading hands back), Writes (what writing does), Places (where
-- the parts stand, in the code's numbers), Opened (what opening hands to judging).
pub mod Points
pub mod Stores
pub mod Accepted
pub mod Bodies
pub mod Second
pub mod Written
pub mod Kept
pub mod Numbers
pub mod Reads
pub mod Writes
pub mod Places
pub mod Opened
