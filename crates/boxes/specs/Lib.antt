-- The least box about a shape: the definition; what it means; cases; what the search knows on its way; then the theory.
pub mod Box
pub mod Meaning
pub mod Cases
pub mod Scan
pub mod theory
