-- Settled answers: how far a changed shape reaches beyond the old one; the words; cases.
pub mod Excess
pub mod Answer
pub mod Settled
pub mod Cases
