-- The size of an answer; then its theory.
pub mod Fit
pub mod theory
