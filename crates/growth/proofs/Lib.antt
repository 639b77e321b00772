-- What growing is for, and the theory behind it.
pub mod Growing
pub mod theory
