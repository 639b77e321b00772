-- Document 01's table: which row is given, what is accepted; what every question answers and writes by it.
pub mod Rows
pub mod Tests
pub mod Accept
pub mod Points
pub mod Asked
