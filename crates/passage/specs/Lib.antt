-- Passing between two obstacles: the definitions; cases.
pub mod Passage
pub mod Corridor
pub mod Cases
