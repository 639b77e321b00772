-- Lemmas that function proofs share.
pub mod Related
