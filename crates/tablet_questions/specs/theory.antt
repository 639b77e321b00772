-- The theory, which only proves: refusals of readings.
pub mod Readings
