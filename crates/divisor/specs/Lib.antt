-- The greatest common divisor: its definition, its laws, and why halving finds it.
pub mod Divisor
pub mod Euclid
pub mod Halving
