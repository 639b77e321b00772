-- The theory of a separating direction, which only proves.
pub mod Below
pub mod Direction
pub mod Exists
pub mod Offered
