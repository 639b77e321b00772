-- Lemmas that function proofs share.
pub mod Passing
pub mod Striding
pub mod Beside
mod Widened
