-- The theory of inside, apart and touching, which only proves; then that what the code finds is what the questions ask; the replies.
pub mod Inside
pub mod Apart
pub mod Sector
pub mod InsideShape
pub mod Rim
pub mod Stops
pub mod Around
pub mod Image
pub mod Within
pub mod Edge
pub mod Passed
pub mod Outward
pub mod Replies
