-- Strips of the floor: their definitions.
pub mod Strip
pub mod OwnDirection
