-- How far a list of points reaches in a direction; a shape is known by it.
pub mod Support
pub mod Corners
pub mod Unique
pub mod Bounds
