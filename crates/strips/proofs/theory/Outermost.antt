-- A shape of three corners or more, seen out of its edges.
--     cross-outward     the product of the direction out of an edge with another is the value of the edge in that
--     spread-out        in no direction have all corners the same value
--     Outermost R e     in the direction out of edge e both its ends are furthest, and they differ; `outermost`: it is so
--     tied-edge         what holds of every edge that is level and furthest in a direction holds if two corners are furthest in it
use Rattle.std.specs.Prelude.{◌≡◌, List, [], ◌∷◌, ℕ, ◌<◌, pos, length, ◌≤ℤ◌, ◌<ℤ◌}
use Rattle.std.proofs.Common.{sym, ◌∙◌, ap, arith}
use Rattle.integer.specs.Ring.{ring, reify}
use Rattle.integer.specs.Linear.{linear, lia, ◌&◌}
use Rattle.integer.specs.Order.{le_antisym}
use Rattle.plane.specs.Point.{Point, origin, corner, ◌⊖◌, ◌∈◌}
use Rattle.plane.specs.Turn.{turn, cross}
use Rattle.plane.specs.Shape.{next, IsShape}
use Rattle.plane.specs.Direction.{value, support}
use Rattle.plane.specs.Forms.{NonZero}
use Rattle.plane.specs.Cut.{outward}
use Rattle.plane.proofs.theory.lists.Members.{position-member, member-position}
use Rattle.plane.proofs.theory.lists.Next.{next-below}
use Rattle.plane.proofs.theory.forms.Vector.{turn_level, square-positive, value-⊖, positive-non-zero}
use Rattle.plane.proofs.theory.support.Support.{support-le, support-unique}
use Rattle.plane.proofs.theory.face.Tied.{Tied, after, behind, tied}
use Rattle.plane.proofs.theory.sum.Positions.{edge_of, next-left}
use Rattle.separation.specs.theory.Sector.{value-outward, level-zero, edge-outermost, edge-nonzero}
use Rattle.strips.specs.OwnDirection.{out_of}

pub cross-outward : (n a b : Point) → cross (outward a b) n ≡ value n (b ⊖ a)
unfolding cross value
cross-outward n a b = ring (n.x ∷ n.y ∷ a.x ∷ a.y ∷ b.x ∷ b.y ∷ []) (search reify depth 40) tt

outward-self : (p : Point) → value (outward p p) (outward p p) ≡ pos 0
unfolding value
outward-self p = ring (p.x ∷ p.y ∷ []) (search reify depth 40) tt

-- the first three corners make a turn
pub spread-out : (ps : List Point) → IsShape ps → 2 < length ps → (n : Point) → NonZero n
    → ((e f : ℕ) → e < length ps → f < length ps → value n (corner ps e) ≤ℤ value n (corner ps f)) → ⊥
spread-out ps s three n some same = some.non_zero (level-zero n (corner ps 0) (corner ps i) (corner ps j) origin
    (next-left ps s three 0 s.some) (same 0 i s.some i-in) (same j i j-in i-in) (level 0 s.some) (level j j-in))
  where
    i : ℕ
    i = next (length ps) 0

    j : ℕ
    j = next (length ps) i

    i-in : i < length ps
    i-in = next-below (length ps) 0 s.some

    j-in : j < length ps
    j-in = next-below (length ps) i i-in

    level : (e : ℕ) → e < length ps → value n (corner ps e) ≡ value n (corner ps i)
    level e h = le_antisym (same e i h i-in) (same i e i-in h)

pub record Outermost (R : List Point) (e : ℕ) : Type 0 where
  pub top : support (out_of R e) R ≤ℤ value (out_of R e) (corner R e)
  pub also : support (out_of R e) R ≤ℤ value (out_of R e) (corner R (next (length R) e))
  pub size : pos 0 <ℤ value (out_of R e) (out_of R e)
  pub different : corner R e ≡ corner R (next (length R) e) → ⊥

pub outermost : (R : List Point) → IsShape R → 2 < length R → (e : ℕ) → e < length R → Outermost R e
outermost R s three e h = record {
  top = first;
  also = lia (support n R ∷ value n u ∷ value n v ∷ turn u v v ∷ []) (first & value-outward u v v & turn_level u v)
      (search linear depth 40) (omega arith);
  size = long;
  different = λ r. lia (value n n ∷ []) (long & ap (λ (z : Point). value (outward u z) (outward u z)) (sym r) ∙ outward-self u)
      (search linear depth 40) (omega arith);
}
  where
    u : Point
    u = corner R e

    v : Point
    v = corner R (next (length R) e)

    n : Point
    n = outward u v

    first : support n R ≤ℤ value n u
    first = support-le n R s.some (edge-outermost R s e h)

    long : pos 0 <ℤ value n n
    long = square-positive n (edge-nonzero R s three e h)

-- the two are neighbours
pub tied-edge : (ps : List Point) → IsShape ps → (n : Point) {P : Type 0} {a b : Point} → a ∈ ps → b ∈ ps → (a ≡ b → ⊥)
    → pos 0 <ℤ value n n → ((p : Point) → p ∈ ps → value n p ≤ℤ value n a) → ((p : Point) → p ∈ ps → value n p ≤ℤ value n b)
    → ((i : ℕ) → i < length ps → value n (edge_of ps i) ≡ pos 0 → ((p : Point) → p ∈ ps → value n p ≤ℤ value n (corner ps i)) → P) → P
tied-edge ps s n {P} {a} {b} a_in b-in other some top also edge = go (member-position a_in) (member-position b-in)
  where
    along : (i j : ℕ) → i < length ps → j < length ps → next (length ps) i ≡ j
        → ((p : Point) → p ∈ ps → value n p ≤ℤ value n (corner ps i)) → ((p : Point) → p ∈ ps → value n p ≤ℤ value n (corner ps j)) → P
    along i j h k e f g = edge i h (rw e (lia
        (value n (corner ps i) ∷ value n (corner ps j) ∷ value n (corner ps j ⊖ corner ps i) ∷ [])
        (f _ (position-member ps j k) & g _ (position-member ps i h) & value-⊖ n (corner ps j) (corner ps i))
        (search linear depth 40) (omega arith))) f

    go : (i : ℕ) × (i < length ps) × (corner ps i ≡ a) → (j : ℕ) × (j < length ps) × (corner ps j ≡ b) → P
    go (i, h, e) (j, k, f) = pick (tied ps s n i j (positive-non-zero n n some) h k (λ r. other (sym e ∙ ap (corner ps) (sym r) ∙ f))
        (sym (support-unique n (position-member ps i h) first)) (sym (support-unique n (position-member ps j k) second)))
      where
        first : (p : Point) → p ∈ ps → value n p ≤ℤ value n (corner ps i)
        first = rw e top

        second : (p : Point) → p ∈ ps → value n p ≤ℤ value n (corner ps j)
        second = rw f also

        pick : Tied ps n i j → P
        pick (after r w) = along i j h k (sym r) first second
        pick (behind r w) = along j i k h (sym r) second first
