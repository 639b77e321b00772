-- Directions that a caller gives: what refusals 11 and 12 let pass, and the one name of a direction.
pub mod Rows
pub mod Scaled
pub mod Primitive
pub mod Divisor
