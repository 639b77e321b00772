-- The theory of the reply, which only proves: that it is read back from its numbers, and what functions that tell it share.
pub mod Bits
pub mod Padded
pub mod Precede
pub mod ReadBack
