-- What each question answers of what its inner function finds.
pub mod Measures
pub mod Boxing
