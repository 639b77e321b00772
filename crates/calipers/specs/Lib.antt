-- The caliper walk round two shapes, their sides, and the image of the second; then the theory.
pub mod Places
pub mod Walk
pub mod Side
pub mod Image
pub mod theory
