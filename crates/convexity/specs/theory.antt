-- The theory of the one pass, which only proves.
--     Stretches    how far a stretch of edges goes, upwards and downwards
--     Convex       a list is a shape exactly if two stretches and the closing edge make it
pub mod Stretches
pub mod Convex
