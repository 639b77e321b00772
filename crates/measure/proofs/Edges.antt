-- The edges that the half walk passes, and the better of two of them.
--     MeasuredAt A b                b is measured
--     turn-kept                     no corner is right of the edge that is carried
--     measured-at                   an edge, measured at a corner of greatest turn
--     chosen-best                   the better of two is the best of one edge more
--     right-more, left-more         one edge more is passed
use mathlib.Core.Path.{◌≡◌, refl, sym, ◌∙◌, ap, ap₂, subst}
use mathlib.Core.Bool.{Bool, true, false}
use mathlib.Core.List.{List}
use mathlib.Core.Logic.{◌⊎◌, inl, inr}
use Prim.Native.Nat.{ℕ, ◌+◌, ◌≤◌, ◌<◌}
use native.Mathlib.Omega.{arith}
use borrow.Author.Tests.{ltb-true, ltb-false}
use lib.Dec.{ltb}
use lib.IntN.{ℤ, pos}
use lib.ListN.{length, get_or-eq_default}
use lib.Signed.{◌≤ℤ◌, yes_non_neg, pos-nat_abs}
use Rattle.integer.specs.Order.{le_of_eq}
use Rattle.plane.specs.Point.{Point, points, corner, origin, ◌⊖◌}
use Rattle.plane.specs.Turn.{cross, turn-cross}
use Rattle.plane.specs.Shape.{next, IsShape}
use Rattle.plane.specs.Direction.{value}
use Rattle.plane.specs.Measure.{edge_turn, height}
use Rattle.plane.specs.Forms.{edges}
use Rattle.plane.specs.Cycle.{round, corner_round}
use Rattle.plane.proofs.theory.sum.Positions.{edge_at, edges-at-most, edge-turn, round-inner, round-within}
use Rattle.plane.proofs.theory.forms.Vector.{value-nonneg, cross-origin}
use Rattle.calipers.specs.declared.side.Side.{Side}
use Rattle.calipers.specs.Side.{corner_of, next_of, Carried}
use Rattle.measure.specs.declared.narrowest.Across.{Across}
use Rattle.measure.specs.Comparison.{Measured}
use Rattle.measure.specs.Partway.{passed_at, BestOf}
use Rattle.measure.specs.Scan.{measured_at, Chosen, stays, gives-way}
use Rattle.measure.specs.theory.Height.{edge_squared-value}
use Rattle.measure.specs.theory.Narrowest.{More}
use Rattle.measure.specs.theory.WidthScan.{width-keep, width-replace}

-- a measured edge
abbrev pub MeasuredAt : List Point → Across → Type 0
MeasuredAt A b = Measured A b.edge b.corner b.turn b.squared

-- ---- what is measured

module _ {l : List ℤ} {s t : Side} (shape : IsShape (points l)) (a : Carried l s) (b : Carried l t) where
  abbrev A : List Point
  A = points l

  other-in : round (length A) t.at < length A
  other-in = round-within (length A) t.at shape.some (omega (arith, b.at_in, edges-at-most A))

  -- the turn that is measured is the corner's turn against the edge
  turns : s.at < length (edges A) → cross (next_of s) (corner_of t ⊖ corner_of s) ≡ edge_turn A s.at (round (length A) t.at)
  unfolding edge_turn
  turns h = ap₂ cross (a.edge-is ∙ edge_at A s.at h) (ap₂ (λ (p q : Point). p ⊖ q) b.corner-is
      (a.corner-is ∙ ap (corner A) (round-inner (length A) s.at (omega (arith, edges-at-most A)))))
      ∙ sym (turn-cross (corner A s.at) (corner A (next (length A) s.at)) (corner_round A t.at))

  pub turn-kept : pos 0 ≤ℤ cross (next_of s) (corner_of t ⊖ corner_of s)
  unfolding edge_turn
  turn-kept = go (ltb s.at (length (edges A))) refl
    where
      go : (c : Bool) → ltb s.at (length (edges A)) ≡ c → pos 0 ≤ℤ cross (next_of s) (corner_of t ⊖ corner_of s)
      go true e = let h = ltb-true s.at (length (edges A)) e in
          rw (turns h) (edge-turn A shape s.at (round (length A) t.at) (omega (arith, edges-at-most A)) other-in)
      go false e = le_of_eq (sym (ap (λ (v : Point). cross v (corner_of t ⊖ corner_of s))
          (a.edge-is ∙ get_or-eq_default (edges A) origin (ltb-false s.at (length (edges A)) e)) ∙ (cross-origin _).0))

  pub measured-at : s.at < length (edges A) → edge_turn A s.at (round (length A) t.at) ≡ height A s.at
      → MeasuredAt A (measured_at s t)
  unfolding measured_at
  measured-at h tall = record {
    corner-in = omega (arith, b.at_in, edges-at-most A);
    has = tall;
    turns = sym tall ∙ sym (turns h) ∙ sym (pos-nat_abs _ (yes_non_neg turn-kept));
    long = edge_squared-value A s.at ∙ sym (ap (λ (v : Point). value v v) (a.edge-is ∙ edge_at A s.at h))
        ∙ sym (pos-nat_abs _ (yes_non_neg (value-nonneg (next_of s))));
  }

-- ---- the better of two

module _ {A : List Point} (shape : IsShape A) (three : 2 < length A) {P Q : ℕ → Type 0} {best found r : Across} (h : found.edge < length A)
    (more : More P Q found.edge) (w : BestOf A P best) (m : MeasuredAt A found) where
  pub chosen-best : Chosen best found r → BestOf A Q r
  chosen-best (stays e n) = subst (BestOf A Q) (sym e) (width-keep shape three h more w m n.no-narrower n.no-earlier)
  chosen-best (gives-way e n) = subst (BestOf A Q) (sym e) (width-replace shape three h more w m n.no-narrower n.no-earlier)

-- ---- the edges passed

pub right-more : (t i m : ℕ) → More (passed_at t i m) (passed_at t (i + 1) m) i
right-more t i m = record { new = inl (omega arith); old = λ f p. old f p; only = λ f q. only f q }
  where
    old : (f : ℕ) → passed_at t i m f → passed_at t (i + 1) m f
    old f (inl p) = inl (omega arith)
    old f (inr p) = inr p

    only : (f : ℕ) → passed_at t (i + 1) m f → passed_at t i m f ⊎ (f ≡ i)
    only f (inl p) = go (ltb f i) refl
      where
        go : (b : Bool) → ltb f i ≡ b → passed_at t i m f ⊎ (f ≡ i)
        go true e = inl (inl (ltb-true f i e))
        go false e = inr (omega (arith, ltb-false f i e))
    only f (inr p) = inl (inr p)

pub left-more : (t i m : ℕ) → t ≤ m → More (passed_at t i m) (passed_at t i (m + 1)) m
left-more t i m l = record { new = inr (l, omega arith); old = λ f p. old f p; only = λ f q. only f q }
  where
    old : (f : ℕ) → passed_at t i m f → passed_at t i (m + 1) f
    old f (inl p) = inl p
    old f (inr p) = inr (p.0, omega (arith, p.1))

    only : (f : ℕ) → passed_at t i (m + 1) f → passed_at t i m f ⊎ (f ≡ m)
    only f (inl p) = inl (inl p)
    only f (inr p) = go (ltb f m) refl
      where
        go : (b : Bool) → ltb f m ≡ b → passed_at t i m f ⊎ (f ≡ m)
        go true e = inl (inr (p.0, ltb-true f m e))
        go false e = inr (omega (arith, ltb-false f m e, p.1))
