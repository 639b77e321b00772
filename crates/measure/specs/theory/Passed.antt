-- An edge that the half walk passes: the corner at hand on the other chain has the greatest turn against it.
--     turn-right, turn-left     it has, against an edge of the right-hand chain and of the left-hand one
--     facing-first, -before, -here     the first corner of greatest turn: corner 0, or the one before a given one, or that itself
use Rattle.std.specs.Prelude.{◌≡◌, refl, Bool, true, false, not, cond, List, [], ◌∷◌, ◌⊎◌, ℕ, ◌+◌, ◌-◌, ◌≤◌, ◌<◌, eqb, ltb, pos, length}
use Rattle.std.specs.Prelude.{◌≤ℤ◌, ◌<ℤ◌}
use Rattle.std.proofs.Common.{sym, ◌∙◌, ap, subst, inl, inr, arith, below_more, ltb-true, ltb-false}
use Rattle.integer.specs.Linear.{lia, linear, ◌&◌}
use Rattle.integer.specs.Order.{lt-or-le, weaken, le_of_eq, le_antisym, le-lt_z}
use Rattle.plane.specs.Cut.{quarter}
use Rattle.plane.specs.Point.{Point, corner, opposite}
use Rattle.plane.specs.Turn.{cross}
use Rattle.plane.specs.Shape.{IsShape}
use Rattle.plane.specs.Measure.{edge_turn, height}
use Rattle.plane.specs.Forms.{up, NonZero, edges}
use Rattle.plane.specs.Direction.{value, support, SameWay}
use Rattle.plane.specs.Cycle.{round, corner_round}
use Rattle.plane.proofs.theory.forms.Vector.{cross-swap, cross-opposite, cross-turned, opposite-non-zero, quarter-non-zero}
use Rattle.plane.proofs.theory.forms.HalfPlane.{up-opposite}
use Rattle.plane.proofs.theory.forms.Angle.{before-alike}
use Rattle.plane.proofs.theory.forms.SameWay.{neither-same}
use Rattle.plane.proofs.theory.sum.Positions.{edge_of, edge_at, edges_some, in-order-non-zero}
use Rattle.plane.proofs.theory.face.Tied.{Tied, after, behind, tied}
use Rattle.measure.specs.Comparison.{Facing}
use Rattle.measure.specs.Half.{Chains, Antipodal, HalfStep, right, left}
use Rattle.plane.proofs.theory.sum.Positions.{shape-in-order}
use Rattle.measure.specs.theory.CutCorner.{Cut, cut-furthest, cut-next}
use Rattle.measure.specs.theory.Chains.{chains-in, up_right, up_left, chain-turns, cross-facing, back_below, late-cross}
use Rattle.measure.specs.theory.Chains.{cut_right, cut_left}
use Rattle.measure.specs.theory.Height.{furthest-height, height-furthest}

module _ {A : List Point} {t : ℕ} (s : IsShape A) (h : Chains A t) where
  non_zero : (k : ℕ) → k < length (edges A) → NonZero (corner (edges A) k)
  non_zero k l = in-order-non-zero (edges A) (shape-in-order A s) k l

  -- parallel edges of the two chains point opposite ways
  opposite-ways : (i p : ℕ) → i < t → t ≤ p → p < length (edges A) → cross (corner (edges A) i) (corner (edges A) p) ≡ pos 0
      → SameWay (corner (edges A) p) (opposite (corner (edges A) i))
  opposite-ways i p l a n flat = neither-same (corner (edges A) p) (opposite (corner (edges A) i))
      (before-alike _ _ alike ∙ le-lt_z (le_of_eq (cross-facing (corner (edges A) p) (corner (edges A) i) ∙ flat)))
      (before-alike _ _ (sym alike) ∙ le-lt_z (le_of_eq level)) (non_zero p n) (opposite-non-zero (non_zero i (omega (arith, chains-in h))))
    where
      alike : up (corner (edges A) p) ≡ up (opposite (corner (edges A) i))
      alike = h.falls p a n
          ∙ sym (up-opposite (corner (edges A) i) (non_zero i (omega (arith, chains-in h))) ∙ ap not (h.rises i l))

      level : cross (opposite (corner (edges A) i)) (corner (edges A) p) ≡ pos 0
      level = cross-turned (corner (edges A) p) (corner (edges A) i)
          ∙ lia (cross (corner (edges A) i) (corner (edges A) p) ∷ cross (corner (edges A) p) (corner (edges A) i) ∷ [])
          (flat & cross-swap (corner (edges A) i) (corner (edges A) p)) (search linear depth 40) (omega arith)

  -- ---- the corner at the cut of the direction to the left of edge e

  module _ {e j : ℕ} (e-in : e < length (edges A)) (c : Cut A (quarter (corner (edges A) e)) j) where
    cut-turn : edge_turn A e (round (length A) j) ≡ height A e
    cut-turn = furthest-height A e s.some (round (length A) j)
        (subst (λ (f : Point). value (quarter f) (corner_round A j) ≡ support (quarter f) A) (edge_at A e e-in) (cut-furthest s c))

    other-turn : j < length (edges A) → SameWay (corner (edges A) j) (opposite (corner (edges A) e))
        → edge_turn A e (round (length A) (j + 1)) ≡ height A e
    other-turn l w = furthest-height A e s.some (round (length A) (j + 1))
        (subst (λ (f : Point). value (quarter f) (corner_round A (j + 1)) ≡ support (quarter f) A) (edge_at A e e-in) (cut-next s c l w))

  -- ---- an edge of the left-hand chain

  module _ {i m : ℕ} (z : Antipodal A t i m) where
    furthest-left : m < length (edges A) → (i < t → pos 0 ≤ℤ cross (corner (edges A) i) (corner (edges A) m))
        → Cut A (quarter (corner (edges A) m)) i
    furthest-left l c = cut_right s h (opposite (corner (edges A) m)) (up_left h s m z.left-from l).precedes-true refl z.right-in
        (λ k a. rw cross-facing (z.right-passed k a l)) (λ a. rw cross-facing (back_below (corner (edges A) i) (corner (edges A) m) (c a)))

    -- ---- an edge of the right-hand chain

    module _ (l : i < t) (c : m < length (edges A) → cross (corner (edges A) i) (corner (edges A) m) <ℤ pos 0) where
      i-in : i < length (edges A)
      i-in = omega (arith, chains-in h)

      -- p is the last edge passed of the left-hand chain: it may be parallel, and those before it are not
      module _ (p : ℕ) (last : m ≡ p + 1) (p-from : t ≤ p) where
        p-in : p < length (edges A)
        p-in = omega (arith, z.left_in)

        p-passed : pos 0 ≤ℤ cross (corner (edges A) i) (corner (edges A) p)
        p-passed = z.left_passed p p-from (omega arith) l

        earlier : (k : ℕ) → t ≤ k → k < p → pos 0 <ℤ cross (corner (edges A) i) (corner (edges A) k)
        earlier k a b =
            let k-in : k < length (edges A) = omega (arith, p-in) in
            rw cross-turned at (late-cross (up_left h s k a k-in) (up_right h i l) (up_left h s p p-from p-in)
            (rw cross-opposite (chain-turns s k p b p-in (h.falls k a k-in ∙ sym (h.falls p p-from p-in))))
            (rw cross-facing (back_below (corner (edges A) i) (corner (edges A) p) p-passed)))

        alone : pos 0 <ℤ cross (corner (edges A) i) (corner (edges A) p) → Cut A (quarter (corner (edges A) i)) m
        alone x = cut_left s h (corner (edges A) i) (h.rises i l) refl z.left-from z.left_in (λ k a b. passed k (omega arith) a)
            (λ n. weaken (c n))
          where
            passed : (k : ℕ) → k < p + 1 → t ≤ k → pos 0 <ℤ cross (corner (edges A) i) (corner (edges A) k)
            passed = below_more (λ k. t ≤ k → pos 0 <ℤ cross (corner (edges A) i) (corner (edges A) k)) p (λ k b a. earlier k a b) (λ a. x)

        parallel : cross (corner (edges A) i) (corner (edges A) p) ≤ℤ pos 0 → edge_turn A i (round (length A) (p + 1)) ≡ height A i
        parallel x = other-turn i-in (cut_left s h (corner (edges A) i) (h.rises i l) refl p-from (omega arith) earlier (λ n. x)) p-in
            (opposite-ways i p l p-from p-in (le_antisym x p-passed))

      turn-beside : (b : Bool) → ltb t m ≡ b → edge_turn A i (round (length A) m) ≡ height A i
      turn-beside false e = cut-turn i-in (cut_left s h (corner (edges A) i) (h.rises i l) refl z.left-from z.left_in
          (λ k a b. absurd (omega (arith, ltb-false t m e))) (λ n. weaken (c n)))
      turn-beside true e =
          let after = ltb-true t m e in
          let last : m ≡ m - 1 + 1 = omega arith in
          let p-from : t ≤ m - 1 = omega arith in
          go last p-from (lt-or-le (pos 0) (cross (corner (edges A) i) (corner (edges A) (m - 1))))
        where
          go : (last : m ≡ m - 1 + 1) → t ≤ m - 1 → (pos 0 <ℤ cross (corner (edges A) i) (corner (edges A) (m - 1)))
              ⊎ (cross (corner (edges A) i) (corner (edges A) (m - 1)) ≤ℤ pos 0) → edge_turn A i (round (length A) m) ≡ height A i
          go last from (inl x) = cut-turn i-in (alone (m - 1) last from x)
          go last from (inr x) = rw last (parallel (m - 1) last from x)

    -- ---- what a step passes

    pub turn-right : {k l : ℕ} → HalfStep A t i m k l → i < k → edge_turn A i (round (length A) m) ≡ height A i
    turn-right (right g c) on = turn-beside g c (ltb t m) refl
    turn-right (left g c) on = absurd (omega arith)

    pub turn-left : {k l : ℕ} → HalfStep A t i m k l → m < l → edge_turn A m (round (length A) i) ≡ height A m
    turn-left (right g c) on = absurd (omega arith)
    turn-left (left g c) on = cut-turn g (furthest-left g c)

-- ---- the first corner of greatest turn

module _ {A : List Point} (s : IsShape A) (wide : 1 < length A) {e c : ℕ} (e-in : e < length A) (c-in : c < length A)
    (has : edge_turn A e c ≡ height A e) where
  edge-non-zero : NonZero (edge_of A e)
  edge-non-zero =
      let l : e < length (edges A) = omega (arith, edges_some A wide) in
      subst NonZero (edge_at A e l) (in-order-non-zero (edges A) (shape-in-order A s) e l)

  -- an earlier corner that has it too is the one before, or the first
  beside : (k : ℕ) → k < c → edge_turn A e k ≡ height A e → (k + 1 ≡ c) ⊎ (k ≡ 0)
  beside k l also = go (tied A s (quarter (edge_of A e)) c k (quarter-non-zero edge-non-zero) c-in (omega arith) (λ q. omega arith)
      (height-furthest A e s.some c has) (height-furthest A e s.some k also))
    where
      go : Tied A (quarter (edge_of A e)) c k → (k + 1 ≡ c) ⊎ (k ≡ 0)
      go (after q w) = wraps (eqb (c + 1) (length A)) q
        where
          wraps : (b : Bool) → k ≡ cond b 0 (c + 1) → (k + 1 ≡ c) ⊎ (k ≡ 0)
          wraps true q = inr q
          wraps false q = absurd (omega arith)
      go (behind q w) = wraps (eqb (k + 1) (length A)) q
        where
          wraps : (b : Bool) → c ≡ cond b 0 (k + 1) → (k + 1 ≡ c) ⊎ (k ≡ 0)
          wraps true q = absurd (omega arith)
          wraps false q = inl (sym q)

  pub facing-here : (edge_turn A e 0 ≡ height A e → ⊥) → (edge_turn A e (c - 1) ≡ height A e → ⊥) → Facing A e c
  facing-here zero before = record { within = c-in; has = has; sole = λ k l also. go k also (beside k l also) }
    where
      go : (k : ℕ) → edge_turn A e k ≡ height A e → (k + 1 ≡ c) ⊎ (k ≡ 0) → ⊥
      go k also (inl q) = let one : c - 1 ≡ k = omega arith in before (rw one also)
      go k also (inr q) = zero (rw q at also)

  pub facing-before : (edge_turn A e 0 ≡ height A e → ⊥) → edge_turn A e (c - 1) ≡ height A e → Facing A e (c - 1)
  facing-before zero also = record { within = omega arith; has = also; sole = λ k l other. go k l other (beside k (omega arith) other) }
    where
      go : (k : ℕ) → k < c - 1 → edge_turn A e k ≡ height A e → (k + 1 ≡ c) ⊎ (k ≡ 0) → ⊥
      go k l other (inl r) = omega arith
      go k l other (inr r) = zero (rw r at other)

pub facing-first : {A : List Point} {e : ℕ} → 0 < length A → edge_turn A e 0 ≡ height A e → Facing A e 0
facing-first some has = record { within = some; has = has; sole = λ k l q. absurd (omega arith) }
