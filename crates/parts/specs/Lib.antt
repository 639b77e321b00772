-- A sum in parts: the two questions, calls one after the other, cases.
pub mod Part
pub mod Calls
pub mod Cases
