-- Lists of numbers and of points, and positions in them.
pub mod Members
pub mod Sought
pub mod Greater
pub mod Greatest
pub mod Flat
pub mod Filled
pub mod Next
pub mod Turned
