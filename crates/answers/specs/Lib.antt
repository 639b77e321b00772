-- What the questions answer, in document 01's terms.
pub mod Answer
