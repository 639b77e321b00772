-- The replies of a refusal and of an answer that is a shape, and what the judging of lists says; then the theory of it.
pub mod Answer
pub mod Admission
pub mod Three
pub mod Meaning
pub mod theory
