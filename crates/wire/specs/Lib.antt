-- A reply as numbers for a host, and how they are read back; then its theory.
pub mod Told
pub mod Heard
pub mod Preceded
pub mod Meaning
pub mod theory
