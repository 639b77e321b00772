-- The two chains of a shape: up its right-hand side from corner 0 to the top, and down its left-hand side.
--     chains-found     the peak is the top
--     chains-in        the top is a place of the half walk
--     up_right         an edge of the right-hand chain points up; `up_left`: one of the left-hand chain, turned round
--     chain-turns      a later edge of a chain turns left
--     cross-facing     the product with a vector turned round; `back_below`, `back_above`: in the other order
--     late-cross       of up vectors, one that comes before a third comes before one that does not
--     cut_right        where the cut is, for a direction whose quarter is up: on the right-hand chain
--     cut_left         and where it is the opposite of such a one: on the left-hand chain
use Rattle.std.specs.Prelude.{◌≡◌, refl, Bool, true, false, not, cond, List, [], ◌∷◌, ℕ, ◌+◌, ◌≤◌, ◌<◌, eqb, ltb, pos, length, ◌≤ℤ◌, ◌<ℤ◌}
use Rattle.std.proofs.Common.{sym, ◌∙◌, ap, add-one, arith, ne_eqb, ltb-true, ltb-false}
use Rattle.std.proofs.lemmas.Bool.{eqb-false}
use Rattle.std.specs.Int.Signed.{lt_z, clash_ℤ}
use Rattle.integer.specs.Ring.{ring, reify}
use Rattle.integer.specs.Linear.{lia, linear, ◌&◌}
use Rattle.integer.specs.Order.{contra<, lt_z-true, lt-lt_z, le-lt_z}
use Rattle.plane.specs.Cut.{quarter}
use Rattle.plane.specs.Point.{Point, corner, origin, ◌⊖◌, opposite}
use Rattle.plane.specs.Turn.{cross}
use Rattle.plane.specs.Shape.{next, precedes, IsShape}
use Rattle.plane.specs.Forms.{up, before, Before, NonZero, edges}
use Rattle.plane.proofs.theory.lists.Sought.{true-not-false}
use Rattle.plane.proofs.theory.forms.Precedes.{precedes-irrefl}
use Rattle.plane.proofs.theory.forms.Vector.{cross-swap}
use Rattle.plane.proofs.theory.forms.HalfPlane.{Up, precedes→up, up→precedes, up-opposite, down-up, cross-trans-weak}
use Rattle.plane.proofs.theory.forms.Angle.{Earlier, apart, alike, before→earlier, earlier→before, later→not-before, before-alike}
use Rattle.plane.proofs.theory.sum.Positions.{edge_at, edges_some, in-order-at, in-order-non-zero}
use Rattle.polygon.specs.Peak.{Peak}
use Rattle.measure.specs.Half.{Chains}
use Rattle.plane.proofs.theory.sum.Positions.{shape-in-order}
use Rattle.measure.specs.theory.CutCorner.{Cut, cut-made}

-- ---- the top is found

-- the vector to a corner that does not come later
not-up : (p q : Point) → precedes p q ≡ false → up (q ⊖ p) ≡ false
not-up p q h = go (up (q ⊖ p)) refl
  where
    go : (b : Bool) → up (q ⊖ p) ≡ b → b ≡ false
    go true e = true-not-false (up→precedes p q (record { precedes-true = e })).precedes-true h
    go false e = refl

-- in the order by angle none points up after one that does not
later-down : {e f : Point} → Before e f → up e ≡ false → up f ≡ false
later-down {e} {f} b h = go (before→earlier b)
  where
    go : Earlier e f → up f ≡ false
    go (apart u d) = d
    go (alike u c) = sym u ∙ h

module _ {A : List Point} {t : ℕ} (s : IsShape A) (peak : Peak A t) where
  within : t < length A
  within = peak.within

  rising : (k : ℕ) → k < t → precedes (corner A k) (corner A (k + 1)) ≡ true
  rising k l = rw add-one (peak.rises k l)

  stops : t + 1 < length A → precedes (corner A t) (corner A (t + 1)) ≡ false
  stops h = rw add-one (peak.falls (omega (arith, h)))

  edge-up : (k : ℕ) → k < t → up (corner (edges A) k) ≡ true
  edge-up k l =
      let inner : next (length A) k ≡ k + 1 = rw (ne_eqb (k + 1) (length A) (λ e. omega arith)) in
      rw (edge_at A k (omega (arith, edges_some A (omega arith))), inner)
      (precedes→up (record { precedes-true = rising k l })).precedes-true

  -- from the top the next edge leads to a corner that does not come later, or back to the first
  top-down : t < length (edges A) → up (corner (edges A) t) ≡ false
  top-down l = rw (edge_at A t l) (not-up (corner A t) (corner A (next (length A) t)) (go (eqb (t + 1) (length A)) refl))
    where
      go : (b : Bool) → eqb (t + 1) (length A) ≡ b → precedes (corner A t) (corner A (cond b 0 (t + 1))) ≡ false
      go true e = s.start t within
      go false e = stops (omega (arith, eqb-false (t + 1) (length A) e))

  pub chains-found : Chains A t
  chains-found = record { within = within; rises = edge-up; falls = λ k l m. go k l m (ltb t k) refl }
    where
      go : (k : ℕ) → t ≤ k → k < length (edges A) → (b : Bool) → ltb t k ≡ b → up (corner (edges A) k) ≡ false
      go k l m true e = later-down (in-order-at (edges A) (shape-in-order A s) t k (ltb-true t k e) m) (top-down (omega arith))
      go k l m false e = let same : k ≡ t = omega (arith, ltb-false t k e) in rw same (top-down (omega arith))

-- ---- what it says

module _ {A : List Point} {t : ℕ} (h : Chains A t) where
  pub chains-in : t ≤ length (edges A)
  chains-in = go (ltb 1 (length A)) refl
    where
      go : (b : Bool) → ltb 1 (length A) ≡ b → t ≤ length (edges A)
      go true e = omega (arith, edges_some A (ltb-true 1 (length A) e), h.within)
      go false e = omega (arith, ltb-false 1 (length A) e, h.within)

  pub up_right : (k : ℕ) → k < t → Up (corner (edges A) k)
  up_right k l = record { precedes-true = h.rises k l }

  pub up_left : IsShape A → (k : ℕ) → t ≤ k → k < length (edges A) → Up (opposite (corner (edges A) k))
  up_left s k l m = down-up (corner (edges A) k) (in-order-non-zero (edges A) (shape-in-order A s) k m) (h.falls k l m)

-- a later edge of the same chain turns left
pub chain-turns : {A : List Point} → IsShape A → (k p : ℕ) → k < p → p < length (edges A)
    → up (corner (edges A) k) ≡ up (corner (edges A) p) → pos 0 <ℤ cross (corner (edges A) k) (corner (edges A) p)
chain-turns {A} s k p l n e = lt_z-true {x = pos 0} (sym (before-alike (corner (edges A) k) (corner (edges A) p) e)
    ∙ (in-order-at (edges A) (shape-in-order A s) k p l n).before-true)

-- ---- the cut of a direction

pub cross-facing : (e f : Point) → cross e (opposite f) ≡ cross f e
unfolding cross
cross-facing e f = ring (e.x ∷ e.y ∷ f.x ∷ f.y ∷ []) (search reify depth 40) tt

-- x comes before q, and y does not
pub back_below : (e f : Point) → pos 0 ≤ℤ cross e f → cross f e ≤ℤ pos 0
back_below e f g = lia (cross e f ∷ cross f e ∷ []) (g & cross-swap e f) (search linear depth 40) (omega arith)

pub back_above : (e f : Point) → cross e f <ℤ pos 0 → pos 0 <ℤ cross f e
back_above e f g = lia (cross e f ∷ cross f e ∷ []) (g & cross-swap e f) (search linear depth 40) (omega arith)

pub late-cross : {x y q : Point} → Up x → Up y → Up q → pos 0 <ℤ cross x q → cross y q ≤ℤ pos 0 → pos 0 <ℤ cross x y
late-cross {x} {y} {q} ux uy uq h k = contra< (λ g. clash_ℤ (cross-trans-weak uy ux uq (turned g) h) k)
  where
    turned : cross x y ≤ℤ pos 0 → pos 0 ≤ℤ cross y x
    turned g = lia (cross x y ∷ cross y x ∷ []) (g & cross-swap x y) (search linear depth 40) (omega arith)

up-non-zero : {q : Point} → up q ≡ true → NonZero q
up-non-zero u = record { non_zero = λ e. precedes-irrefl {p = origin} (record { precedes-true = ap up (sym e) ∙ u }) }

module _ {A : List Point} {t : ℕ} (s : IsShape A) (h : Chains A t) {d : Point} (q : Point) (u : up q ≡ true) where
  -- the edges of the right-hand chain before q
  pub cut_right : {i : ℕ} → quarter d ≡ q → i ≤ t → ((k : ℕ) → k < i → pos 0 <ℤ cross (corner (edges A) k) q)
      → (i < t → cross (corner (edges A) i) q ≤ℤ pos 0) → Cut A d i
  cut_right {i} across i-in early late = cut-made s (omega (arith, chains-in h)) passed (λ l. rw across (next-late l (ltb i t) refl))
    where
      passed : (k : ℕ) → k < i → before (corner (edges A) k) (quarter d) ≡ true
      passed k l = rw across (before-alike (corner (edges A) k) q (h.rises k (omega arith) ∙ sym u) ∙ lt-lt_z (early k l))

      next-late : i < length (edges A) → (b : Bool) → ltb i t ≡ b → before (corner (edges A) i) q ≡ false
      next-late l true e = let m = ltb-true i t e in before-alike (corner (edges A) i) q (h.rises i m ∙ sym u) ∙ le-lt_z (late m)
      next-late l false e = later→not-before (apart (h.falls i (ltb-false i t e) l) u)

  -- all of the right-hand chain, and the edges of the left-hand one before the opposite of q
  pub cut_left : {m : ℕ} → quarter d ≡ opposite q → t ≤ m → m ≤ length (edges A)
      → ((k : ℕ) → t ≤ k → k < m → pos 0 <ℤ cross q (corner (edges A) k))
      → (m < length (edges A) → cross q (corner (edges A) m) ≤ℤ pos 0) → Cut A d m
  cut_left {m} across m-from m-in early late = cut-made s m-in (λ k l. rw across (passed k l (ltb k t) refl)) next-late
    where
      down : up (opposite q) ≡ false
      down = up-opposite q (up-non-zero u) ∙ ap not u

      by-cross : (k : ℕ) → t ≤ k → k < length (edges A)
          → before (corner (edges A) k) (opposite q) ≡ lt_z (pos 0) (cross q (corner (edges A) k))
      by-cross k l n = before-alike (corner (edges A) k) (opposite q) (h.falls k l n ∙ sym down)
          ∙ ap (lt_z (pos 0)) (cross-facing (corner (edges A) k) q)

      passed : (k : ℕ) → k < m → (b : Bool) → ltb k t ≡ b → before (corner (edges A) k) (opposite q) ≡ true
      passed k l true e = (earlier→before (apart (h.rises k (ltb-true k t e)) down)).before-true
      passed k l false e = let n = ltb-false k t e in by-cross k n (omega arith) ∙ lt-lt_z (early k n l)

      next-late : m < length (edges A) → before (corner (edges A) m) (quarter d) ≡ false
      next-late l = rw across (by-cross m m-from l ∙ le-lt_z (late l))
