-- Integer algebra: in reading order, the laws of the ring, the solver of identities, the order, and linear arithmetic.
pub mod Laws
pub mod Polynomial
pub mod Ring
pub mod Parts
pub mod Linear
pub mod Order
pub mod Bound
pub mod Machine
pub mod Size
