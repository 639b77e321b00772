-- The theory of the laws: lists in another order; what an answered call says, and when it is answered; when a grouping has a result; how
-- far that reaches, and on which floor it is; that it is the shape of the whole list; the laws of two and three shapes; those of a sweep.
pub mod Order
pub mod Answer
pub mod Acceptance
pub mod Refused
pub mod Fold
pub mod Whole
pub mod Pair
pub mod Sweep
