-- The theory of rows and chains, which only proves: what a scan of points in order leaves in a buffer, that the two chains of two shapes
-- are the shape of both, and that both chains of sorted points are their outline.
pub mod Unite
pub mod Stack
pub mod Reading
pub mod Peak
pub mod Trimmed
pub mod Chains
pub mod Counted
pub mod Spread
pub mod OnePoint
pub mod Written
pub mod Route
