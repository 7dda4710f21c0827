-- Laws of the definitions in specs/, a file for each topic: Small (an answer's numbers fit 32 bits), Results (the bytes
-- of results, stored and read), HoldsResults (the result buffer), Ends (how a feed ends).
pub mod Small
pub mod Results
pub mod ResultBuffer
pub mod Ends
