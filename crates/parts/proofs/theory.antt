-- The theory of sums in parts, which only proves: what a call writes and hands back, what it answers, and calls one after the other.
pub mod Parts
pub mod PartAnswers
pub mod Calls
