-- A ring that is answered: what is written is a valid shape.
--     ring-few       no more corners than points without a closing one
--     ring-near      all in range
--     ring-valid     so the numbers are those of a valid shape
--     answered-passes     what an answer says of the rows
use Rattle.std.specs.Prelude.{◌≡◌, false, not, List, [], ◌∷◌, ℕ, ◌≤◌, ◌<◌, ℤ, length, get_or}
use Rattle.std.proofs.Common.{sym, subst, zero-le, arith, le_trans}
use Rattle.std.proofs.lemmas.List.{length-map}
use Rattle.plane.specs.Limits.{max_corners, points-le-corners}
use Rattle.plane.specs.Point.{Point, points, numbers, corner}
use Rattle.plane.specs.Reply.{answered}
use Rattle.plane.specs.Refusal.{Valid}
use Rattle.plane.specs.Shape.{IsShape}
use Rattle.plane.specs.Output.{room_row}
use Rattle.plane.specs.Floor.{on}
use Rattle.plane.specs.Question.{reply}
use Rattle.plane.proofs.theory.lists.Flat.{Near, points_near, numbers-length, points-numbers, numbers-in_range}
use Rattle.plane.proofs.theory.refusals.Asked.{asked-answered}
use Rattle.plane.proofs.theory.refusals.Rows.{none-append}
use Rattle.ring.specs.Round.{head_of, last_of, clockwise, sensed, straight, bending, bends}
use Rattle.ring.specs.Ring.{open_ring, ring_places, ring_corners, ring_shape, inward_row, list_rows, ValidRing, ask_ring}
use Rattle.ring.specs.theory.Steps.{map_at, sense-length}
use Rattle.ring.specs.theory.Under.{under_at, corners-under, optional-length, places-few}
use Rattle.ring.specs.theory.Rows.{accepted→ring}
use Rattle.ring.specs.theory.Outline.{quiet→shape}

bending-few : (f : ℕ → Point) (a : ℕ) (xs : List ℕ) (z : ℕ) → length (bending f a xs z) ≤ length xs
bending-few f a [] z = zero-le
bending-few f a (x ∷ xs) z =
    let l = optional-length (not (straight (f a) (f x) (f (head_of z xs)))) x (bending f x xs z) in
    let m = bending-few f x xs z in
    omega arith

bends-few : (f : ℕ → Point) (xs : List ℕ) → length (bends f xs) ≤ length xs
bends-few f [] = zero-le
bends-few f (x ∷ xs) = bending-few f (last_of x xs) (x ∷ xs) x

pub ring-few : (ps : List Point) → 0 < length ps → length (ring_shape ps) ≤ length (open_ring ps)
unfolding ring_corners
ring-few ps some =
    let f = corner ps in
    omega (
      arith,
      length-map (ring_corners ps) f,
      bends-few f (sensed f (ring_places ps)),
      sense-length (clockwise f (ring_places ps)) (ring_places ps),
      places-few ps some,
    )

module _ (l : List ℤ) (v : ValidRing l) where
  ring-near : (k : ℕ) → k < length (ring_shape (points l)) → Near (corner (ring_shape (points l)) k)
  ring-near k h =
      let is = ring_corners (points l) in
      let inside : k < length is = omega (arith, length-map is (corner (points l))) in
      subst Near (sym (map_at (corner (points l)) is k inside))
      (points_near l v.in_range (get_or is k 0) (under_at (length (points l)) is (corners-under (points l) v.some) k inside))

  pub ring-valid : IsShape (ring_shape (points l)) → Valid (numbers (ring_shape (points l)))
  ring-valid shape =
      let qs = ring_shape (points l) in
      record {
        paired = omega (arith, numbers-length qs);
        few = subst (λ (ps : List Point). length ps ≤ max_corners) (sym (points-numbers qs))
            (le_trans (ring-few (points l) v.some) (le_trans v.few points-le-corners));
        in_range = numbers-in_range qs ring-near;
        shape = subst IsShape (sym (points-numbers qs)) shape;
      }

-- an answer says that none of 1 to 3 applies, and that no corner turns in
pub answered-passes : (l out : List ℤ) (f : ℕ) (v : List ℤ) → reply (ask_ring (on l f) out) ≡ answered v
    → ValidRing l × ((inward_row (points l)).applies ≡ false)
answered-passes l out f v h =
    let none = none-append (list_rows l) (inward_row (points l) ∷ room_row (ring_shape (points l)) out ∷ [])
    (asked-answered (ask_ring (on l f) out) v h) in
    (accepted→ring l none.0, none.1.0)

pub answered-valid : (l out : List ℤ) (f : ℕ) (v : List ℤ) → reply (ask_ring (on l f) out) ≡ answered v → Valid
    (numbers (ring_shape (points l)))
answered-valid l out f v h =
    let good = answered-passes l out f v h in
    ring-valid l good.0 (quiet→shape (points l) good.0.some good.1)
