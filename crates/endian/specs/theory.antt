-- How numbers as bytes read back, and what the code's loops rest on.
pub mod Bytes
pub mod Coded
