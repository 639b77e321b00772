-- What the replies of the questions are held to; then its theory.
pub mod Meaning
pub mod theory
