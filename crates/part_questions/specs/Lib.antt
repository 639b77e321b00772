-- The walk of a caller, and what the questions on a sum in parts answer; then its theory.
pub mod Walk
pub mod Answer
pub mod theory
