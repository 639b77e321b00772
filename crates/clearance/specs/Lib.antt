-- The order of candidates; what the search finds on the way; what clearance means, in document 02's words; then its theory.
pub mod Order
pub mod Facing
pub mod Stop
pub mod Sight
pub mod Faces
pub mod Answer
pub mod Meaning
pub mod theory
