-- The theory of directions. The definitions are in `plane`.
pub mod theory
