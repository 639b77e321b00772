-- The theory of sums, which only proves: the corners of the whole walk, how far shapes reach, the places that a walk reaches.
pub mod Summed
pub mod Enclosed
pub mod Outermost
pub mod Reached
pub mod PlaceTest
