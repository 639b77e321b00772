-- What each question answers of what its inner function finds.
pub mod Logs
pub mod Packing
pub mod Entries
pub mod Books
