-- A ring of points cleaned, and brought to the standard list; positions as code holds them; then what it means, and its theory.
pub mod Round
pub mod Ring
pub mod Places
pub mod Meaning
pub mod theory
