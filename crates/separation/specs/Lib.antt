-- What the questions answer, what their code finds on the way, the paper's sentences; then the meaning, and its theory.
pub mod Answer
pub mod Outward
pub mod Around
pub mod Passing
pub mod Directions
pub mod Meaning
pub mod theory
