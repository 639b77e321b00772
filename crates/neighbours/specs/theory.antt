-- The theory of the nearest shape, which only proves.
pub mod Least
pub mod Near
pub mod Spacings
pub mod Search
pub mod Settled
pub mod Answers
