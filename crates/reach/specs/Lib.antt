-- The greatest distance of two shapes: the definition; the paper's sentence; what the code finds on the way; what it means; cases; then the
-- theory.
pub mod Greatest
pub mod Extremes
pub mod Answer
pub mod Meaning
pub mod Cases
pub mod theory
