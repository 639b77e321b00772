-- Numbers as bytes, the lowest first; then their theory.
pub mod Bytes
pub mod theory
