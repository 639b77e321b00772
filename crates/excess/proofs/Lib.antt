-- What the proofs of functions share; then what the definitions mean, and the theory behind it.
pub mod Reading
pub mod Search
pub mod Meaning
pub mod theory
