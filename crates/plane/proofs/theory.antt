-- The theory of the plane, which only proves: what a contract cites is defined beside this folder. In reading order:
--     lists        members, searches, the greatest of numbers, lists of numbers, positions on the way round
--     forms        vectors, half planes, the order by angle, and that the forms of a shape agree
--     refusals     the table of refusals, what is accepted, and what is written
--     support      how far a list reaches, and that a shape is known by it
--     hull         the hull scan, and the shape of a set
--     sum          paths along edges, the cut, the sum of sorted edges
--     face         the furthest corners of a shape in a direction
--     direction    what refusals 11 and 12 let pass, and the one name of a direction
--     mirror       the mirror image
--     sweep        how large the shape of a set is
pub mod lists
pub mod forms
pub mod refusals
pub mod support
pub mod hull
pub mod sum
pub mod face
pub mod direction
pub mod mirror
pub mod sweep
