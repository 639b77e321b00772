-- The forms of a shape: vectors by angle, and why the forms agree.
pub mod Precedes
pub mod Vector
pub mod Squared
pub mod HalfPlane
pub mod Angle
pub mod SameWay
pub mod Fan
pub mod Round
pub mod Standard
