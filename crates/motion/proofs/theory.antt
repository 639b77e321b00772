-- The theory of first contact, which only proves: shapes taken some times; a point inside one, by the walls; fractions of the way, and
-- where it enters a wall; lowest terms; where the place meets, and the first such fraction; that edges are enough from three corners on;
-- the cart, and larger carts and obstacles; the safe millimetres; what is replied.
pub mod Scaled
pub mod Walls
pub mod Entry
pub mod Lowest
pub mod Meeting
pub mod Edges
pub mod Larger
pub mod Safe
pub mod Replies
