-- The first shape of a floor that a straight drive meets: the definitions; what an answer tells; what it means; cases; what the search
-- keeps; then the theory.
pub mod Drive
pub mod Answered
pub mod Meaning
pub mod Cases
pub mod Search
pub mod theory
