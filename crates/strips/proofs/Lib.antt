-- What width and clearance say of strips, in every direction, and the theory behind it.
pub mod EveryDirection
pub mod theory
