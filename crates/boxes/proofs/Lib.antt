pub mod Aim
pub mod Sizes
pub mod Walk
