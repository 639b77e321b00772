-- Numbers of many words, in reading order; then their theory.
pub mod Value
pub mod Root
pub mod theory
