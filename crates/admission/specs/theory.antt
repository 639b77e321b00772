-- The theory of admission, which only proves: what judging says, and what a question refuses or answers by it.
pub mod Known
pub mod Judged
pub mod Three
pub mod Door
