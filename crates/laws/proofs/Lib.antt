-- The laws; the builds that they shut out; the laws of a sweep; then the theory.
pub mod Laws
pub mod Sweep
pub mod Useless
pub mod theory
