-- Lemmas that function proofs share.
pub mod Stepped
pub mod Pairs
pub mod Edges
pub mod Sweep
pub mod Found
