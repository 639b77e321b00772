-- What the judging of a reading says; then its theory.
pub mod Coordinate
pub mod Meaning
pub mod theory
