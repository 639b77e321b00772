-- The theory of the furthest corner and the face of a shape, which only proves.
pub mod Furthest
pub mod Face
