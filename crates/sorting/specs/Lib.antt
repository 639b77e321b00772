-- What the functions of this crate and of `hull` promise each other; then the theory.
pub mod Order
pub mod Buffer
pub mod Interior
pub mod Digits
pub mod theory
