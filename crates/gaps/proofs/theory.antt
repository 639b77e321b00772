-- The theory of gaps, which only proves: a walk along a log; its records as the code reads them; how a search goes on; the pairs of a
-- floor; after an addition; what is replied.
pub mod Steps
pub mod Read
pub mod Passed
pub mod Pairs
pub mod Additions
pub mod Replies
