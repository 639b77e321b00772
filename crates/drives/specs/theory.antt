-- The theory of drives along a floor, which only proves: which shape is met first; what the records of a floor are, and where one is met;
-- what is replied, and what an answer tells; after an addition; then how the code finds it, record by record.
pub mod Soonest
pub mod Floors
pub mod Met
pub mod Replies
pub mod Told
pub mod Additions
pub mod Walked
