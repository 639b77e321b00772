-- What the definitions mean, and the theory behind it.
pub mod Meaning
pub mod theory
