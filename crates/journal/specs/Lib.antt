-- A log of shapes (the paper's floor book): its records, reading, adding, and histories.
pub mod Format
pub mod Kind
pub mod Reading
pub mod Current
pub mod Adding
pub mod Facts
pub mod History
pub mod Survey
pub mod Places
pub mod Marks
pub mod Allowance
pub mod Cases
