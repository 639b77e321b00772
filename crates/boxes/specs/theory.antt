-- The theory of boxes, which only proves: the first least edge; boxes in directions; every direction; shapes compared; what answers say;
-- the corners that the calipers find.
pub mod Least
pub mod Around
pub mod Across
pub mod Level
pub mod Every
pub mod Compared
pub mod Answers
pub mod Climb
pub mod Held
