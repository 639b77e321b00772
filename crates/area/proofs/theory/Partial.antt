-- The area by positions, as a loop sums it up: the closing edge first, then the others in order.
--     up_to ps i            the cross products of corners 0 and 1, .., i-1 and i
--     partial ps i         the same, after that of the last corner and the first
--     partial-more         one more; `partial-all`: at the last corner it is twice the area
--     partial-within       it has at most 60 bits
use Rattle.std.specs.Prelude.{◌≡◌, refl, List, [], ◌∷◌, ℕ, zero, suc, ◌+◌, ◌-◌, ◌*◌, ◌^◌, ◌<◌, ◌≤◌, ℤ, pos, ◌+ℤ◌, length}
use Rattle.std.proofs.Common.{arith, add-one, le_trans}
use Rattle.integer.specs.Ring.{ring, reify}
use Rattle.integer.specs.Linear.{linear, lia, ◌&◌}
use Rattle.integer.specs.Bound.{Within, within-add, within-mul, within-neg, within-widen}
use Rattle.plane.specs.Limits.{corners-small}
use Rattle.plane.specs.Point.{Point, points, corner}
use Rattle.plane.specs.Turn.{cross}
use Rattle.plane.specs.Refusal.{Valid, InRange}
use Rattle.polygon.specs.Point.{Small}
use Rattle.polygon.specs.theory.Small.{small-corner}
use Rattle.area.specs.Area.{crosses_to, twice_area}

abbrev pub up_to : List Point → ℕ → ℤ
up_to ps zero = pos 0
up_to ps (suc i) = up_to ps i +ℤ cross (corner ps i) (corner ps (suc i))

unfoldable pub partial : List Point → ℕ → ℤ
partial ps i = cross (corner ps (length ps - 1)) (corner ps 0) +ℤ up_to ps i

pub partial-start : (ps : List Point) → cross (corner ps (length ps - 1)) (corner ps 0) ≡ partial ps 0
unfolding partial
partial-start ps = ring (cross (corner ps (length ps - 1)) (corner ps 0) ∷ []) (search reify depth 40) tt

pub partial-more : (ps : List Point) (i : ℕ) → partial ps i +ℤ cross (corner ps i) (corner ps (i + 1)) ≡ partial ps (i + 1)
unfolding partial
partial-more ps i = rw add-one
    (ring (cross (corner ps (length ps - 1)) (corner ps 0) ∷ up_to ps i ∷ cross (corner ps i) (corner ps (suc i)) ∷ [])
    (search reify depth 40) tt)

-- the sum over p ∷ ps begins with p and the first of ps
up_to-later : (p q : Point) (ps : List Point) (i : ℕ) → up_to (p ∷ q ∷ ps) (suc i) ≡ cross p q +ℤ up_to (q ∷ ps) i
up_to-later p q ps zero = ring (cross p q ∷ []) (search reify depth 40) tt
up_to-later p q ps (suc i) =
    lia (up_to (p ∷ q ∷ ps) (suc i) ∷ cross p q ∷ up_to (q ∷ ps) i ∷ cross (corner (q ∷ ps) i) (corner (q ∷ ps) (suc i)) ∷ [])
    (up_to-later p q ps i) (search linear depth 40) (omega arith)

crosses-up_to : (s p : Point) (ps : List Point)
    → crosses_to s p ps ≡ up_to (p ∷ ps) (length ps) +ℤ cross (corner (p ∷ ps) (length ps)) s
crosses-up_to s p [] = ring (cross p s ∷ []) (search reify depth 40) tt
crosses-up_to s p (q ∷ ps) =
    lia (cross p q ∷ crosses_to s q ps ∷ up_to (q ∷ ps) (length ps) ∷ cross (corner (q ∷ ps) (length ps)) s
    ∷ up_to (p ∷ q ∷ ps) (suc (length ps)) ∷ [])
    (crosses-up_to s q ps & up_to-later p q ps (length ps)) (search linear depth 40) (omega arith)

pub partial-all : (ps : List Point) (i : ℕ) → i < length ps → length ps ≤ i + 1 → twice_area ps ≡ partial ps i
unfolding partial
partial-all [] i h k = absurd (omega arith)
partial-all (p ∷ ps) i h k =
    let end : i ≡ length ps = omega arith in
    let last : length (p ∷ ps) - 1 ≡ length ps = omega arith in
    rw (end, last) (lia (crosses_to p p ps ∷ up_to (p ∷ ps) (length ps) ∷ cross (corner (p ∷ ps) (length ps)) p ∷ [])
    (crosses-up_to p p ps) (search linear depth 40) (omega arith))

-- ---- how large

cross-within : {p q : Point} → Small (2 ^ 21) p → Small (2 ^ 21) q → Within (2 ^ 43) (cross p q)
unfolding cross
cross-within s t = within-add (within-mul s.small-x t.small-y) (within-neg (within-mul s.small-y t.small-x))

pub corners-within : (l : List ℤ) → InRange l → (i j : ℕ) → i < length (points l) → j < length (points l)
    → Within (2 ^ 43) (cross (corner (points l) i) (corner (points l) j))
corners-within l r i j h k = cross-within (small-corner l r i h refl) (small-corner l r j k refl)

up_to-within : (l : List ℤ) → InRange l → (i : ℕ) → i < length (points l) → Within (i * 2 ^ 43) (up_to (points l) i)
up_to-within l r zero h = record { size = omega arith }
up_to-within l r (suc i) h =
    within-widen (omega arith) (within-add (up_to-within l r i (omega arith)) (corners-within l r i (suc i) (omega arith) h))

pub partial-within : (l : List ℤ) → Valid l → (i : ℕ) → i < length (points l) → Within (2 ^ 60) (partial (points l) i)
unfolding partial
partial-within l v i h =
    let few : length (points l) ≤ 2 ^ 16 = le_trans v.few corners-small in
    within-widen (omega arith) (within-add (corners-within l v.in_range (length (points l) - 1) 0 (omega arith) (omega arith))
    (up_to-within l v.in_range i h))
