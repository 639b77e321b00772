-- The theory of what crosses, which only proves: what 13 for a floor above its limit changes, and what it does not.
pub mod Low
pub mod High
pub mod Passages
pub mod Rings
