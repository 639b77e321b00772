-- The theory, which only proves.
pub mod theory
