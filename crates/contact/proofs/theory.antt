-- How the code finds the first contact: divisors and roots, fractions of two words, walls by corners, a way past a wall
-- or past the box, what the loop over the walls finds, and what it tells.
pub mod Found
pub mod Words
pub mod Sides
pub mod Beyond
pub mod Arrivals
pub mod Told
