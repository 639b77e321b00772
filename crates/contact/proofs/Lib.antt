-- The theory of first contact.
pub mod theory
