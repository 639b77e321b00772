-- The corners of a shape that are furthest in one direction: one, or the two ends of an edge.
pub mod Tied
pub mod FirstFurthest
pub mod Face
