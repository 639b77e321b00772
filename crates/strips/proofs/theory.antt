-- The theory of strips, which only proves: spread; directions on one line; directions out of edges; every direction; the corridor; what
-- answers say.
pub mod Spread
pub mod Parallel
pub mod Outermost
pub mod Edges
pub mod WidthBound
pub mod Corridors
pub mod LengthBound
pub mod Answers
