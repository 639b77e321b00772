-- The narrowest gap of a floor: the definitions; cases; what the search keeps.
pub mod Gap
pub mod Cases
pub mod Search
