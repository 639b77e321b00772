-- The widest corridor between two shapes, as the code finds it between the grown obstacles. Our own, not of documents 01 and 02.
--     widest_of A B            the direction from B to A across it: of the step between their nearest points, in lowest terms
--     widest_numbers A B       1, the direction, the greatest value of B and the least of A in it, and the width rounded down
--     corridor_numbers A B     these if the shapes are apart, else 0
--     way_numbers w            the numbers of what the code returns
-- What it means: `corridor-passage` of the theory, between the grown obstacles it is the passage.
use Rattle.std.specs.Prelude.{cond, Option, Some, None, List, [], ◌∷◌, ◌*◌, ℤ, pos, nat_abs}
use Rattle.plane.specs.Point.{Point}
use Rattle.plane.specs.Direction.{value, support}
use Rattle.plane.specs.Primitive.{primitive}
use Rattle.plane.specs.Measure.{root_below}
use Rattle.plane.specs.Separation.{apart}
use Rattle.plane.specs.Clearance.{nearest}
use Rattle.strips.specs.Strip.{least, gap_in}
use Rattle.strips.specs.OwnDirection.{towards}
use Rattle.answers.specs.declared.Lane.{Lane}

abbrev pub widest_of : List Point → List Point → Point
widest_of A B = primitive (towards A B (nearest A B))

abbrev pub widest_numbers : List Point → List Point → List ℤ
widest_numbers A B =
    let n = widest_of A B in
    let room = nat_abs (gap_in n A B) in
    pos 1 ∷ n.x ∷ n.y ∷ support n B ∷ least n A ∷ pos (root_below (room * room) (nat_abs (value n n))) ∷ []

abbrev pub corridor_numbers : List Point → List Point → List ℤ
corridor_numbers A B = cond (apart A B) (widest_numbers A B) (pos 0 ∷ [])

abbrev pub way_numbers : Option Lane → List ℤ
way_numbers None = pos 0 ∷ []
way_numbers (Some w) = pos 1 ∷ w.u ∷ w.v ∷ w.low ∷ w.high ∷ pos w.width ∷ []
