-- The theory of area, which only proves: sums over lists of edges; the mixed area of two shapes; what it says of areas; how large they are.
pub mod Sums
pub mod Mixed
pub mod Compared
pub mod Bounded
pub mod Partial
