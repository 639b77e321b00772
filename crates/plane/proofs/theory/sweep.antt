-- The shape of many points: how large it is.
pub mod Few
pub mod SweepSize
