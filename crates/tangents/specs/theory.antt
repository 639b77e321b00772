-- The theory of lines that touch two lists of corners, which only proves.
pub mod FiniteOrder
pub mod Sides
pub mod DrawsTest
pub mod DrawsOrder
pub mod NeighboursSuffice
pub mod OneLine
pub mod NearestOnLine
pub mod EndStays
pub mod SettledExists
pub mod Sliding
pub mod Touching
pub mod TangentUnique
pub mod TangentSearch
pub mod Rows
