-- The nearest shape of a floor; when an answer stays; how the code holds distances and searches; what it means, and worked cases; then the
-- theory that proves it.
pub mod All
pub mod Nearest
pub mod Settled
pub mod Spacing
pub mod Search
pub mod Meaning
pub mod Cases
pub mod theory
