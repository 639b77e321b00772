-- Boxes about shapes, and what they say of a distance; then the theory that proves it.
pub mod Far
pub mod theory
