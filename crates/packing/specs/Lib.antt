-- Packing a log into a second run of bytes: the definitions; what they mean; cases; then the theory.
pub mod Packing
pub mod Later
pub mod Copying
pub mod Meaning
pub mod Cases
pub mod theory
