-- What crosses to a host and back: floors that are any numbers, and a reading of the tablet; then the theory.
pub mod LowFloor
pub mod Reading
pub mod theory
