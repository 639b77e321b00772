-- The search for the width: the moves of `Sweep`.
--     sweep-start, -next     its moves
--     sweep-fits             what a step measures can be multiplied
--     sweep-done             at the end: the best of all edges
use mathlib.Core.Path.{◌≡◌, refl, ◌∙◌, ap₂, subst}
use mathlib.Core.Bool.{Bool, true, false, not, cond}
use mathlib.Core.List.{List}
use mathlib.Core.Logic.{inl, inr}
use Prim.Native.Nat.{ℕ, ◌+◌, ◌≤◌, ◌<◌}
use native.Mathlib.Omega.{arith}
use borrow.Author.Tests.{ltb-true, ltb-false}
use lib.Dec.{ltb}
use lib.IntN.{ℤ}
use lib.ListN.{length}
use Rattle.plane.specs.Point.{Point, points}
use Rattle.plane.specs.Turn.{cross}
use Rattle.plane.specs.Shape.{IsShape}
use Rattle.plane.specs.Forms.{edges}
use Rattle.plane.proofs.theory.sum.Positions.{edges_some}
use Rattle.calipers.specs.declared.side.Side.{Side}
use Rattle.calipers.specs.Side.{next_of, onward, Carried}
use Rattle.calipers.specs.theory.Sides.{onward-inner}
use Rattle.measure.specs.declared.narrowest.Across.{Across}
use Rattle.measure.specs.Comparison.{none}
use Rattle.measure.specs.Half.{goes_right, HalfStep, right, left}
use Rattle.measure.specs.Partway.{passed_at, BestOf, Sweep}
use Rattle.measure.specs.Scan.{HalfAt, Fits, measured_at, Chosen, Best}
use Rattle.measure.specs.theory.Passed.{turn-right, turn-left}
use Rattle.measure.specs.theory.WidthScan.{width_same}
use Rattle.measure.proofs.Edges.{turn-kept, measured-at, chosen-best, right-more, left-more}
use Rattle.measure.proofs.Stepped.{half-edges, half-corners, half-on}

-- where the right-hand chain stays, the left-hand one has an edge to pass
left-inside : {A : List Point} {t i m k l : ℕ} → HalfStep A t i m k l → k ≡ i → m < length (edges A)
left-inside (right g c) e = absurd (omega arith)
left-inside (left g c) e = g

module _ {l : List ℤ} {top end : ℕ} where
  pub sweep-start : {s t : Side} → HalfAt l top s t → 2 < length (points l) → end ≡ length (edges (points l)) → s.at ≡ 0 → t.at ≡ top
      → Sweep l top end s t (record { edge = 0; corner = 0; turn = 1; squared = 0 })
  sweep-start {s} {t} h three sides a b = record { half = h; three = three; sides = sides; best-so-far = none nothing }
    where
      nothing : (f : ℕ) → passed_at top s.at t.at f → ⊥
      nothing f (inl p) = omega (arith, a)
      nothing f (inr p) = omega (arith, b, p.0, p.1)

  module _ {s t : Side} {best : Across} (g : Sweep l top end s t best) where
    shape : IsShape (points l)
    shape = g.half.valid.shape

    all : length (edges (points l)) ≡ length (points l)
    all = edges_some (points l) (omega (arith, g.three))

    -- the passed edge and the other side, whichever they are
    module _ (w : Bool) {x y : Side} (p : x ≡ cond w s t) (q : y ≡ cond w t s) where
      pub sweep-fits : Fits x y
      sweep-fits = rw (p, q) (go w)
        where
          go : (w : Bool) → Fits (cond w s t) (cond w t s)
          go true = record {
            edge-fits = (half-edges g.half).0;
            corner-fits = (half-corners g.half).0;
            other_fits = (half-corners g.half).1;
            not_right = turn-kept shape g.half.right_side g.half.left-side;
          }
          go false = record {
            edge-fits = (half-edges g.half).1;
            corner-fits = (half-corners g.half).1;
            other_fits = (half-corners g.half).0;
            not_right = turn-kept shape g.half.left-side g.half.right_side;
          }

      module _ (on : s.at + t.at < top + end) (told : w ≡ goes_right top end s.at t.at (cross (next_of s) (next_of t)))
          {s' t' : Side} (a : (s'.at ≡ cond (not w) s.at (onward (points l) s.at)) × Carried l s')
          (b : (t'.at ≡ cond w t.at (onward (points l) t.at)) × Carried l t') where
        step : HalfStep (points l) top s.at t.at s'.at t'.at
        step = (half-on g.half g.sides on told a b).0

        passed : {r : Across} (v : Bool) → w ≡ v → Chosen best (measured_at (cond v s t) (cond v t s)) r
            → BestOf (points l) (passed_at top s'.at t'.at) r
        unfolding measured_at
        passed true e k =
            let inside : s.at < length (edges (points l)) = omega (arith, all, g.half.antipodal.right-in, g.half.chains.within) in
            let more : s'.at ≡ s.at + 1 = rw e at a.0 ∙ onward-inner (points l) s.at inside in
            let still : t'.at ≡ t.at = rw e at b.0 in
            rw (more, still) (chosen-best shape g.three (omega (arith, all)) (right-more top s.at t.at) g.best-so-far
            (measured-at shape g.half.right_side g.half.left-side inside
            (turn-right shape g.half.chains g.half.antipodal step (omega (arith, more)))) k)
        passed false e k =
            let still : s'.at ≡ s.at = rw e at a.0 in
            let inside = left-inside step still in
            let more : t'.at ≡ t.at + 1 = rw e at b.0 ∙ onward-inner (points l) t.at inside in
            rw (more, still) (chosen-best shape g.three (omega (arith, all))
            (left-more top s.at t.at g.half.antipodal.left-from) g.best-so-far
            (measured-at shape g.half.left-side g.half.right_side inside
            (turn-left shape g.half.chains g.half.antipodal step (omega (arith, more)))) k)

        pub sweep-next : {found r : Across} → found ≡ measured_at x y → Chosen best found r → Sweep l top end s' t' r
        sweep-next {found} {r} u k = record {
          half = (half-on g.half g.sides on told a b).1;
          three = g.three;
          sides = g.sides;
          best-so-far = passed w refl (subst (λ (f : Across). Chosen best f r) (u ∙ ap₂ measured_at p q) k);
        }

    pub sweep-done : top + end ≤ s.at + t.at → Best l best
    sweep-done h = width_same from to g.best-so-far
      where
        from : (f : ℕ) → passed_at top s.at t.at f → f < length (points l)
        from f (inl p) = omega (arith, g.half.antipodal.right-in, g.half.chains.within)
        from f (inr p) = omega (arith, p.1, g.half.left-side.at_in, all)

        to : (f : ℕ) → f < length (points l) → passed_at top s.at t.at f
        to f q = go (ltb f top) refl
          where
            go : (b : Bool) → ltb f top ≡ b → passed_at top s.at t.at f
            go true e = inl (omega (arith, ltb-true f top e, g.sides, g.half.left-side.at_in))
            go false e = inr (ltb-false f top e, omega (arith, g.sides, all, g.half.antipodal.right-in))
