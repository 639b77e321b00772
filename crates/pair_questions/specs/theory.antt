-- What each question answers of what its inner function finds.
pub mod Told
pub mod Offers
pub mod Lines
