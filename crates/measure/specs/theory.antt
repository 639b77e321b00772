-- The theory of length and width, which only proves: the half walk, and what is at its places; the replies.
pub mod Longest
pub mod CutCorner
pub mod Chains
pub mod HalfWalk
pub mod Antipodal
pub mod FurthestApart
pub mod LengthScan
pub mod Height
pub mod Passed
pub mod Fractions
pub mod Narrowest
pub mod Rounded
pub mod WidthScan
pub mod Replies
