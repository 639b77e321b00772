-- The theory of delivering, which only proves: what is refused by its size, and what is written.
pub mod Delivery
