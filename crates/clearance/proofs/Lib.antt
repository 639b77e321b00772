-- Lemmas that function proofs share.
pub mod Tests
pub mod Looking
