-- The shape of a set of points by the hull scan.
pub mod Halves
pub mod Ascending
pub mod Scan
pub mod Hull
pub mod ShapeOf
