-- What the meaning rests on, in reading order.
pub mod Fraction
pub mod Exact
pub mod Tested
pub mod Reads
pub mod Rows
pub mod Value
pub mod Refused
pub mod Corner
