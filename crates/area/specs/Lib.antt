-- The area of a shape: the definition, and cases.
pub mod Area
pub mod Cases
