-- Lemmas that function proofs share.
pub mod Walked
pub mod Progress
