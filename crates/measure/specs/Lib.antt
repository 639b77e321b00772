-- What is answered, what pairs and edges are compared by, what the two searches know along the walk, and the paper's sentences; what
-- length and width mean; then its theory.
pub mod Answer
pub mod Comparison
pub mod Half
pub mod Scan
pub mod Partway
pub mod Extremes
pub mod Meaning
pub mod theory
