-- The rule that a tangent meets; what the search for one compares; what the four tangents mean, in document 02's words; then the theory
-- of it.
pub mod Rule
pub mod Draws
pub mod Meaning
pub mod theory
