-- First contact on a straight drive: the definitions; cases.
pub mod Contact
pub mod Cases
