-- The theory of the greatest distance, which only proves: the first pair that has it; the walk that comes to every such pair, and what it
-- knows on the way; all points of two shapes; the replies.
pub mod Furthest
pub mod Visited
pub mod Scan
pub mod Points
pub mod Replies
