-- The theory of points in order, which only proves: what a buffer holds; that points in a rectangle may be dropped and the others put in
-- order.
pub mod Lengths
pub mod Ahead
pub mod Least
pub mod Run
pub mod Stored
pub mod CornersWritten
pub mod Copied
pub mod Key
pub mod Held
pub mod Interior
pub mod Insertion
pub mod Digits
