-- What the search for a direction answers; then what an accepted direction means, and the theory.
pub mod Separator
pub mod Meaning
pub mod theory
