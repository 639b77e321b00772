-- The questions on bytes, a reply in one number, and what is passed on for them; then the theory.
pub mod Bytes
pub mod Packing
pub mod Passing
pub mod theory
