-- The theory of points that code may compute with, of corners at the front of a buffer, of a shape's peak, and of how far corners reach,
-- which only proves.
pub mod Small
pub mod Fronts
pub mod Negated
pub mod Peak
pub mod Extents
