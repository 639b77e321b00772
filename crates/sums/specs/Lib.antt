-- What is taken from the caliper walk: a sum, its size, and its places; then what it means, and the theory. Parts are in the crate `parts`.
pub mod Advance
pub mod Size
pub mod Turning
pub mod PlaceAfter
pub mod PlaceTest
pub mod Meaning
pub mod theory
