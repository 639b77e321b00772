-- The walk that looks for the closest place: the invariant of the loop, and its moves.
--     Looking a b from walk back       all places passed from a corner on fail, but for that corner; back is the corner before the one
--                                      at hand
--     looking-start, looking-more      its moves; `looking-at`: the walk is at a place of the lists
--     looking-corner, looking-edge     the corner or the edge at hand passes
--     looking-end                      all are passed, and only the corner at which the walk began is left
use mathlib.Core.Path.{◌≡◌, refl, sym, ◌∙◌, ap, ap₂, subst}
use mathlib.Core.Bool.{Bool, true, false, and-eq-true_iff}
use mathlib.Core.Logic.{◌⊎◌, inl, inr}
use mathlib.Core.List.{List, [], ◌∷◌}
use Prim.Native.Nat.{ℕ, suc, ◌+◌, ◌≤◌, ◌<◌}
use native.Mathlib.Numerals.{add-one}
use native.Mathlib.Omega.{arith}
use borrow.Author.Tests.{ltb-true, ltb-false}
use lib.Dec.{ltb}
use lib.IntN.{ℤ}
use lib.ListN.{length}
use lib.Signed.{le_z}
use Rattle.integer.specs.Linear.{linear, lia, ◌&◌}
use Rattle.integer.specs.Order.{le_z-true}
use Rattle.plane.specs.Point.{Point, origin, points, corner, ◌⊖◌}
use Rattle.plane.specs.Direction.{value}
use Rattle.plane.specs.Forms.{NonZero}
use Rattle.plane.specs.VectorSum.{vector_sum}
use Rattle.plane.specs.Cut.{quarter}
use Rattle.plane.proofs.theory.forms.Vector.{value-origin, square-positive}
use Rattle.calipers.specs.Walk.{Walk, here, begun, advanced, stepped, At}
use Rattle.calipers.specs.theory.Steps.{at-stepped}
use Rattle.separation.specs.theory.Stops.{on_below, over-end, corner-here, stop-here}
use Rattle.clearance.specs.Stop.{rests, crosses, after, Stopped, at-corner, at_edge}
use Rattle.clearance.specs.Sight.{NoOrigin, Nowhere}

-- the last of k + 1 positions, or one before it
last_or : (k j : ℕ) → j < k + 1 → (j ≡ k) ⊎ (j < k)
last_or k j h = go (ltb j k) refl
  where
    go : (b : Bool) → ltb j k ≡ b → (j ≡ k) ⊎ (j < k)
    go true e = inr (ltb-true j k e)
    go false e = inl (omega (arith, ltb-false j k e))

-- the corner before the one at hand; the origin, where the walk began
abbrev Back : List Point → ℕ → ℕ → Point → Type 0
Back D from count back = ((count ≡ from) × (back ≡ origin)) ⊎ ((k : ℕ) × (count ≡ suc k) × (back ≡ corner D k))

pub record Looking (a b : List ℤ) (from : ℕ) (walk : Walk) (back : Point) : Type 0 where
  pub start : At a b begun
  pub count : ℕ
  pub within : count ≤ length (vector_sum (points a) (points b))
  pub moved : walk ≡ stepped (points a) (points b) count begun
  pub back_is : Back (vector_sum (points a) (points b)) from count back
  pub no-corner : let D = vector_sum (points a) (points b) in (k : ℕ) → from ≤ k → suc k < count
      → rests (corner D k) (corner D (suc k)) (after D (suc k)) ≡ false
  pub no_edge : let D = vector_sum (points a) (points b) in (k : ℕ) → from ≤ k → k < count → crosses (corner D k) (after D k) ≡ false

-- the origin is nearer than a corner that is not there
origin-nearer : (w d : Point) → NonZero w → rests origin w d ≡ true → ⊥
unfolding rests
origin-nearer w d some h = let near = ((and-eq-true_iff (le_z (value w w) (value w origin)) _).0 h).0 in
    lia (value w w ∷ value w origin ∷ []) (square-positive w some & value-origin w & le_z-true {x = value w w} {y = value w origin} near)
    (search linear depth 40) (omega arith)

module _ {a b : List ℤ} {from : ℕ} where
  pub looking-start : {walk : Walk} → At a b begun → from < length (vector_sum (points a) (points b))
      → walk ≡ stepped (points a) (points b) from begun → Looking a b from walk origin
  looking-start t h e = record {
    start = t;
    count = from;
    within = omega arith;
    moved = e;
    back_is = inl (refl, refl);
    no-corner = λ k g l. absurd (omega arith);
    no_edge = λ k g l. absurd (omega arith);
  }

  module _ {walk : Walk} {back : Point} (p : Looking a b from walk back) where
    abbrev D : List Point
    D = vector_sum (points a) (points b)

    pub looking-at : At a b walk
    looking-at = subst (At a b) (sym p.moved) (at-stepped a b begun p.start p.count)

    module _ (on : walk.over ≡ false) {next-walk : Walk} (e : next-walk ≡ advanced (points a) (points b) walk) {w d : Point}
        (w-is : w ≡ here (points a) (points b) walk) (d-is : d ≡ here (points a) (points b) next-walk) where
      below : p.count < length D
      below = on_below a b p.start p.count p.within (ap (λ (v : Walk). v.over) (sym p.moved) ∙ on)

      after_is : next-walk ≡ stepped (points a) (points b) (suc p.count) begun
      after_is = e ∙ ap (advanced (points a) (points b)) p.moved

      w-corner : w ≡ corner D p.count
      w-corner = w-is ∙ ap (here (points a) (points b)) p.moved ∙ corner-here a b p.start p.count below

      d-corner : d ≡ after D p.count
      d-corner = d-is ∙ ap (here (points a) (points b)) after_is ∙ stop-here a b p.start p.count below

      crosses-here : crosses w d ≡ crosses (corner D p.count) (after D p.count)
      crosses-here = ap₂ crosses w-corner d-corner

      pub looking-corner : NoOrigin D → rests back w d ≡ true → Stopped D w
      looking-corner some t = elim p.back_is [
        | inl (e, q) ↦ absurd (origin-nearer w d (subst NonZero (sym w-corner) (some p.count below)) (rw q at t))
        | inr (k, e, q) ↦ at-corner k (omega (arith, below, e))
            (rw (← e, ← q, ← w-corner, ← d-corner) t) (w-corner ∙ ap (corner D) e)
      ]

      pub looking-edge : crosses w d ≡ true → Stopped D (quarter (d ⊖ w))
      looking-edge t = at_edge p.count below (sym crosses-here ∙ t) (ap₂ (λ x y. quarter (x ⊖ y)) d-corner w-corner)

      module _ (r : rests back w d ≡ false) (c : crosses w d ≡ false) where
        corners-fail : (k : ℕ) → from ≤ k → suc k < p.count + 1 → rests (corner D k) (corner D (suc k)) (after D (suc k)) ≡ false
        corners-fail k g h = elim (last_or p.count (suc k) h) [
          | inl q ↦ last k g q p.back_is
          | inr l ↦ p.no-corner k g l
        ]
          where
            last : (k : ℕ) → from ≤ k → suc k ≡ p.count → Back D from p.count back
                → rests (corner D k) (corner D (suc k)) (after D (suc k)) ≡ false
            last k g q (inl (e, z)) = absurd (omega (arith, e, q))
            last k g q (inr (l, e, z)) =
                let same : l ≡ k = omega (arith, e, q) in
                rw (q, ← same, ← z, ← w-corner, ← d-corner) r

        edges-fail : (k : ℕ) → from ≤ k → k < p.count + 1 → crosses (corner D k) (after D k) ≡ false
        edges-fail k g h = elim (last_or p.count k h) [
          | inl q ↦ subst (λ m. crosses (corner D m) (after D m) ≡ false) (sym q) (sym crosses-here ∙ c)
          | inr l ↦ p.no_edge k g l
        ]

        pub looking-more : Looking a b from next-walk w
        looking-more = record {
          start = p.start;
          count = p.count + 1;
          within = omega (arith, below);
          moved = after_is ∙ ap (λ (n : ℕ). stepped (points a) (points b) n begun) (sym (add-one p.count));
          back_is = inr (p.count, add-one p.count, w-corner);
          no-corner = corners-fail;
          no_edge = edges-fail;
        }

        pub looking-end : next-walk.over ≡ true → Nowhere D from
        looking-end o =
            let all : length D ≤ suc p.count =
            over-end a b p.start (suc p.count) below (ap (λ (v : Walk). v.over) (sym after_is) ∙ o) in
            record {
              no-corner = λ k g h. corners-fail k g (omega arith);
              no_edge = λ k g h. edges-fail k g (omega arith);
            }
