-- What the functions of this crate promise each other; what the merge's refusals come to; then its theory.
pub mod Chain
pub mod Meaning
pub mod theory
