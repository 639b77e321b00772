-- The theory of growing, which only proves: pairs of shapes that relate alike; places; larger carts and more obstacles; lost
-- corners; what relation and clearance reply; what grow, and mirror and sum, answer.
pub mod Alike
pub mod Places
pub mod Laws
pub mod Lost
pub mod Replies
pub mod Calls
