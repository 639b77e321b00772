-- The vector sum of two lists of corners by their edges.
pub mod Path
pub mod Cut
pub mod EdgeSum
pub mod EdgeCount
pub mod Positions
