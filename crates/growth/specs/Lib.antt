-- Growing obstacles by a cart's outline: the definitions; cases.
pub mod Grown
pub mod Cases
