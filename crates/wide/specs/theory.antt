-- The theory of words: proves, and defines nothing that a contract cites.
pub mod Laws
pub mod Carry
pub mod Compare
pub mod Bisection
