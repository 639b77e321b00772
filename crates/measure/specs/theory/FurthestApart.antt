-- Two corners of a shape at the greatest distance are antipodal. Each is furthest alone in the direction of the one from the other, which
-- looks right for one of the two: that one is on the right-hand chain.
--     longest-antipodal     the place of the half walk at which they are
use Rattle.std.specs.Prelude.{◌≡◌, refl, Bool, true, false, not, cond, List, [], ◌∷◌, ℕ, ◌≤◌, ◌<◌, eqb, ltb, pos, length, ◌≤ℤ◌, ◌<ℤ◌}
use Rattle.std.proofs.Common.{◌∙◌, ap, arith, ltb-true, ltb-false, ne_eqb}
use Rattle.integer.specs.Ring.{ring, reify}
use Rattle.integer.specs.Linear.{lia, linear, ◌&◌}
use Rattle.plane.specs.Cut.{quarter}
use Rattle.plane.specs.Point.{Point, corner, ◌⊖◌, opposite}
use Rattle.plane.specs.Shape.{IsShape}
use Rattle.plane.specs.Direction.{value}
use Rattle.plane.specs.Measure.{squared}
use Rattle.plane.specs.Forms.{up, NonZero}
use Rattle.plane.specs.Cycle.{round}
use Rattle.plane.proofs.theory.lists.Members.{point-path}
use Rattle.plane.proofs.theory.forms.Squared.{squared-positive}
use Rattle.plane.proofs.theory.forms.Vector.{⊖-zero, value-⊖, quarter-non-zero, turned_lt}
use Rattle.plane.proofs.theory.forms.HalfPlane.{up-opposite}
use Rattle.plane.proofs.theory.sum.Positions.{corner-injective}
use Rattle.measure.specs.Half.{Chains, Antipodal}
use Rattle.measure.specs.Comparison.{Stands}
use Rattle.measure.specs.theory.HalfWalk.{antipodal-start}
use Rattle.measure.specs.theory.Antipodal.{strict-antipodal}
use Rattle.measure.specs.theory.Longest.{longest-strict, squared-le-length, Longest}

cancel-from : (p q r : Point) → r ⊖ q ≡ p ⊖ q → r ≡ p
cancel-from p q r e = point-path
    (lia (p.x ∷ q.x ∷ r.x ∷ []) (ap (λ (z : Point). z.x) e) (search linear depth 40) (omega arith))
    (lia (p.y ∷ q.y ∷ r.y ∷ []) (ap (λ (z : Point). z.y) e) (search linear depth 40) (omega arith))

cancel-to : (p q r : Point) → p ⊖ r ≡ p ⊖ q → r ≡ q
cancel-to p q r e = point-path
    (lia (p.x ∷ q.x ∷ r.x ∷ []) (ap (λ (z : Point). z.x) e) (search linear depth 40) (omega arith))
    (lia (p.y ∷ q.y ∷ r.y ∷ []) (ap (λ (z : Point). z.y) e) (search linear depth 40) (omega arith))

squared-self : (p : Point) → squared p p ≡ pos 0
unfolding squared
squared-self p = ring (p.x ∷ p.y ∷ []) (search reify depth 40) tt

module _ {A : List Point} {t : ℕ} (s : IsShape A) (h : Chains A t) {k l : ℕ} (f : Longest A k l) where
  -- the vector between the two
  abbrev z : Point
  z = corner A k ⊖ corner A l

  k-in : k < length A
  k-in = omega (arith, f.ordered, f.within)

  far : (i j : ℕ) → i < length A → j < length A → squared (corner A i) (corner A j) ≤ℤ squared (corner A k) (corner A l)
  far i j hi hj = rw f.longest (squared-le-length A i j hi hj)

  -- each is alone furthest, in its direction or the other way
  most : (i : ℕ) → i < length A → (i ≡ k → ⊥) → value z (corner A i) <ℤ value z (corner A k)
  most i hi other =
      let less = longest-strict (corner A k) (corner A l) (corner A i) (corner A l) (far i l hi f.within)
      (λ e. other (corner-injective A s i k hi k-in (cancel-from (corner A k) (corner A l) (corner A i) e))) in
      lia (value z (corner A i) ∷ value z (corner A k) ∷ value z (corner A l) ∷ value z (corner A i ⊖ corner A l) ∷ value z z ∷ [])
      (less & value-⊖ z (corner A i) (corner A l) & value-⊖ z (corner A k) (corner A l)) (search linear depth 40) (omega arith)

  least : (i : ℕ) → i < length A → (i ≡ l → ⊥) → value z (corner A l) <ℤ value z (corner A i)
  least i hi other =
      let less = longest-strict (corner A k) (corner A l) (corner A k) (corner A i) (far k i k-in hi)
      (λ e. other (corner-injective A s i l hi f.within (cancel-to (corner A k) (corner A l) (corner A i) e))) in
      lia (value z (corner A i) ∷ value z (corner A k) ∷ value z (corner A l) ∷ value z (corner A k ⊖ corner A i) ∷ value z z ∷ [])
      (less & value-⊖ z (corner A k) (corner A i) & value-⊖ z (corner A k) (corner A l)) (search linear depth 40) (omega arith)

  differ : 1 < length A → NonZero z
  differ wide = record { non_zero = λ e. together (⊖-zero (corner A l) (corner A k) e) }
    where
      together : corner A l ≡ corner A k → ⊥
      together e =
          let none : squared (corner A k) (corner A l) ≡ pos 0 = rw e (squared-self (corner A k)) in
          let two = squared-positive (corner A 0) (corner A 1) (λ q. apart (corner-injective A s 0 1 s.some wide q)) in
          lia (squared (corner A k) (corner A l) ∷ squared (corner A 0) (corner A 1) ∷ [])
          (none & two & far 0 1 s.some wide) (search linear depth 40) (omega arith)
        where
          apart : ◌≡◌ {A = ℕ} 0 1 → ⊥
          apart q = omega arith

  -- the place of the pair, by which of the two is on the right-hand chain
  first-right : {a b : ℕ} → Antipodal A t a b → a ≡ k → round (length A) b ≡ l → Stands A a b k l
  first-right {a} {b} x p q = go (eqb b (length A)) refl q
    where
      go : (c : Bool) → eqb b (length A) ≡ c → cond c 0 b ≡ l → Stands A a b k l
      go true e r = record { from_is = rw e (omega (arith, f.ordered)); to_is = rw e (omega (arith, f.ordered)) }
      go false e r = record { from_is = rw e p; to_is = rw e r }

  second-right : {a b : ℕ} → Antipodal A t a b → a ≡ l → round (length A) b ≡ k → Stands A a b k l
  second-right {a} {b} x p q = go (eqb b (length A)) refl q
    where
      go : (c : Bool) → eqb b (length A) ≡ c → cond c 0 b ≡ k → Stands A a b k l
      go true e r = record { from_is = rw e r; to_is = rw e p }
      go false e r =
          let order : a ≤ b = omega (arith, x.right-in, x.left-from) in
          record { from_is = rw e (omega (arith, f.ordered)); to_is = rw e (omega (arith, f.ordered)) }

  pub longest-antipodal : (a b : ℕ) × Antipodal A t a b × Stands A a b k l
  longest-antipodal = wide (ltb 1 (length A)) refl
    where
      looking : (c : Bool) → up (quarter z) ≡ c → NonZero z → (a b : ℕ) × Antipodal A t a b × Stands A a b k l
      looking true u n = let r = strict-antipodal s h z u k l k-in f.within most least in
          (r.0, r.1, r.2, first-right r.2 r.3 r.4)
      looking false u n =
          let back : up (quarter (opposite z)) ≡ true = up-opposite (quarter z) (quarter-non-zero n) ∙ ap not u in
          let r = strict-antipodal s h (opposite z) back l k f.within k-in
          (λ i m other. turned_lt z (corner A l) (corner A i) (least i m other))
          (λ i m other. turned_lt z (corner A i) (corner A k) (most i m other)) in
          (r.0, r.1, r.2, second-right r.2 r.3 r.4)

      -- a point's only corner is the top
      wide : (c : Bool) → ltb 1 (length A) ≡ c → (a b : ℕ) × Antipodal A t a b × Stands A a b k l
      wide true e = looking (up (quarter z)) refl (differ (ltb-true 1 (length A) e))
      wide false e =
          let one = ltb-false 1 (length A) e in
          let inner : eqb t (length A) ≡ false = ne_eqb t (length A) (λ q. omega (arith, h.within)) in (
            0,
            t,
            antipodal-start h,
            record {
              from_is = rw inner (omega (arith, k-in));
              to_is = rw inner (omega (arith, f.within, h.within));
            },
          )
