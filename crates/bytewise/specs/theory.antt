-- The theory of the questions on bytes, which only proves.
--     Agree, Alike     two questions that reply alike; lists that are asked about in place of others
--     Packed           the numbers of a reply, packed
pub mod Agree
pub mod Alike
pub mod Packed
