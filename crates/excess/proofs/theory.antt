-- The theory of settled answers, which only proves: lengths compared by squares; the distance of a point; the outermost corner; the excess
-- in every direction, and rounded up; lists that reach at most so far beyond others; what is left of a clearance and of a passage; where a
-- point is nearest, and what the code finds there; what is replied; settled answers in whole millimetres; logs.
pub mod Lengths
pub mod Beyond
pub mod Outermost
pub mod Reach
pub mod Rounded
pub mod Moved
pub mod Clear
pub mod Promises
pub mod Passages
pub mod Kinds
pub mod Found
pub mod Replies
pub mod Answers
pub mod Widths
pub mod Books
