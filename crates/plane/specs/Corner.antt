-- Corners of a finite set of points, and its shape (document 01, "What each question asks", second and third paragraph).
-- A set is the list of its points, in any order and with repeats.
--     Corner S p       p is a point of S that is strictly furthest, among the different points, in some whole-number direction
--     ascending S      the different points of S by y, then by x
--     push, scan       one point of an ascending (or descending) list is read, or all: what is kept is listed last first and turns left
--     side ps          the points kept of such a list, without its last: the right-hand chain up, or the left-hand chain down
--     outline ps       up the right side of an ascending list, from the least point to the greatest, and down the left side
--     shape_of S        the shape of the set: the outline of its ascending points
--     sums A B         all corner-plus-corner points of two lists; `sums_of` of a list of lists, one corner of each, chosen separately
--     mirrored A       all (-x, -y)
-- What it means: shape_of S is a shape, p is in it exactly if Corner S p, and every list with these two properties equals it
-- (`Meaning.antt`).
use Rattle.std.specs.Prelude.{true, false, ◌≡◌, pos, ◌<ℤ◌}
use mathlib.Core.List.{List, [], ◌∷◌, ◌++◌, map, tail, reverse, Memᴰ}
use Rattle.std.specs.Int.Signed.{lt_z}
use Rattle.plane.specs.Point.{Point, origin, ◌⊕◌, opposite}
use Rattle.plane.specs.Turn.{turn}
use Rattle.plane.specs.Shape.{precedes}
use Rattle.plane.specs.Direction.{value}

pub record Corner (S : List Point) (p : Point) : Type 0 where
  pub member : Memᴰ p S
  pub direction : Point
  pub strictly : (q : Point) → Memᴰ q S → (q ≡ p → ⊥) → value direction q <ℤ value direction p

-- ---- the different points in ascending order

abbrev pub insert : Point → List Point → List Point
insert p [] = p ∷ []
insert p (q ∷ S) =
    let later = insert p S in
    elim (precedes p q) [ true ↦ p ∷ q ∷ S | false ↦ elim (precedes q p) [ true ↦ q ∷ later | false ↦ q ∷ S ] ]

abbrev pub ascending : List Point → List Point
ascending [] = []
ascending (p ∷ S) = insert p (ascending S)

-- ---- the scan: the points kept so far are listed last first; one that the new point does not turn left of is dropped

abbrev pub push : Point → List Point → List Point
push p [] = p ∷ []
push p (a ∷ []) = p ∷ a ∷ []
push p (a ∷ (b ∷ kept)) = let dropped = push p (b ∷ kept) in elim (lt_z (pos 0) (turn b a p)) [ true ↦ p ∷ a ∷ b ∷ kept | false ↦ dropped ]

abbrev pub scan : List Point → List Point → List Point
scan kept [] = kept
scan kept (p ∷ ps) = scan (push p kept) ps

-- from the first point of a sorted list up to, and without, its last, which the scan has put first
abbrev pub side : List Point → List Point
side ps = reverse (tail (scan [] ps))

abbrev pub outline : List Point → List Point
outline [] = []
outline (p ∷ []) = p ∷ []
outline (p ∷ (q ∷ ps)) = side (p ∷ q ∷ ps) ++ side (reverse (p ∷ q ∷ ps))

unfoldable pub shape_of : List Point → List Point
shape_of S = outline (ascending S)

-- ---- the sets of sum, merge and mirror

abbrev pub sums : List Point → List Point → List Point
sums [] B = []
sums (a ∷ A) B = map (λ b. a ⊕ b) B ++ sums A B

abbrev pub sums_of : List (List Point) → List Point
sums_of [] = origin ∷ []
sums_of (A ∷ L) = sums A (sums_of L)

abbrev pub mirrored : List Point → List Point
mirrored A = map opposite A
