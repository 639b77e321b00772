-- The theory of rings, which only proves.
--     Buffers    what a loop has stored, and what is still to come
--     Steps      the walks of the definitions, one step at a time
--     Under      all positions are positions of the list
--     Inward     the test whether a corner turns in, by its parts
--     Kept       what is kept without repeats; Furthest: no corner of the set is lost
--     First      the way round, and its first point
--     Turning    none turns in exactly if the corners are a shape; Outline: and then it is the shape of the points
--     Natural    what is kept depends on the points alone; Begun: begun elsewhere; Backwards: read backwards; Own: a shape's own list
--     Arranged   a ring whose points are a shape's list from the least on, onwards or backwards
--     Valid      what is written of an answered ring is a valid shape
--     Rows       rows 1 to 3; Answers: the others, and the answer
pub mod Buffers
pub mod Steps
pub mod Under
pub mod Inward
pub mod Rows
pub mod Answers
pub mod Kept
pub mod Furthest
pub mod Turning
pub mod First
pub mod Outline
pub mod Natural
pub mod Valid
pub mod Begun
pub mod Backwards
pub mod Own
pub mod Arranged
