-- What the meaning is proved from, in reading order:
--     Mends       the stores that make one run of bytes another
--     Kept        the current records without those of a name
--     Packed      the packed log, as a log
--     Remade      one call, and calls in turn
--     Later       additions to the old log and to the packed one
-- Then what the code's loops are proved from:
--     Copying     bytes stored where they differ, in parts
--     Passes      the pass that counts the packed bytes, and the pass that stores them
pub mod Mends
pub mod Kept
pub mod Packed
pub mod Remade
pub mod Later
pub mod Copying
pub mod Passes
