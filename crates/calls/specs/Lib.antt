-- The calls of a host: what some answer besides the question's own reply; cases of the calls on lists and on bytes; what it all means;
-- then the theory.
pub mod Calls
pub mod Cases
pub mod BytesCases
pub mod Meaning
pub mod theory
