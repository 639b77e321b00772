-- Demand 3 of document 01: its definitions.
pub mod Grouping
