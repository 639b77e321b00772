-- The theory, which only proves: that every answer has room.
pub mod Roomy
