-- The theory of the walk, which only proves: where it is, the places it visits, the corners there.
pub mod Standing
pub mod CrossOrder
pub mod Furthest
pub mod Places
pub mod PlaceCorners
pub mod Visited
pub mod Sides
pub mod Image
pub mod Steps
pub mod Carry
pub mod Directions
pub mod Visits
