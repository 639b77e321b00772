-- The code's points and what the functions of this crate promise, beside the plane's definitions; then its theory.
pub mod Point
pub mod Broken
pub mod Front
pub mod Peak
pub mod Extent
pub mod theory
