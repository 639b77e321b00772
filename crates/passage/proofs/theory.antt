-- The theory of passing, which only proves: gaps of grown obstacles; the direction with the widest gap, and that it is the only one; the
-- room and the free width; that 11 and 12 let the direction pass; places between the lines; smaller obstacles and carts; exchanged
-- obstacles; what is replied; how the code finds it.
pub mod Gaps
pub mod Widest
pub mod Only
pub mod Room
pub mod Rows
pub mod Bezout
pub mod Places
pub mod Smaller
pub mod Exchanged
pub mod Replies
pub mod Found
