-- The two sides of the half walk, as the code carries them.
--     half-start                     they begin at antipodal corners
--     half-edges, half-corners       their edges may be multiplied, their corners subtracted
--     half_room                      their positions may be added
--     half-on                        a step by `goes_right` leads on, to antipodal corners, and fewer are to come
--     Inside, inside-told            where no chain ends soon the sign of the product alone tells the step
--     inside-left, inside_on         three edges are left of either side, and a step is to come
use mathlib.Core.Path.{◌≡◌, sym, ◌∙◌, ap, ap₂}
use mathlib.Core.Bool.{Bool, not, cond}
use mathlib.Core.List.{List}
use Prim.Native.Nat.{ℕ, ◌+◌, ◌-◌, ◌^◌, ◌≤◌, ◌<◌}
use native.Mathlib.Omega.{arith}
use borrow.Author.Tests.{ne_eqb}
use lib.IntN.{ℤ, pos}
use lib.ListN.{length}
use lib.Signed.{lt_z}
use Rattle.plane.specs.Limits.{corners-small}
use Rattle.plane.specs.Point.{points}
use Rattle.plane.specs.Refusal.{Valid}
use Rattle.plane.specs.Turn.{cross}
use Rattle.plane.specs.Forms.{edges}
use Rattle.plane.proofs.theory.sum.Positions.{edges-at-most, edges_some}
use Rattle.polygon.specs.Point.{Small}
use Rattle.calipers.specs.declared.side.Side.{Side}
use Rattle.calipers.specs.Side.{corner_of, next_of, onward, Carried}
use Rattle.calipers.specs.theory.Sides.{corner-fits, edge-fits}
use Rattle.measure.specs.Half.{Chains, goes_right, HalfStep, right, left}
use Rattle.measure.specs.Scan.{HalfAt}
use Rattle.measure.specs.theory.Chains.{chains-in}
use Rattle.measure.specs.theory.HalfWalk.{antipodal-start, antipodal-step, half_step}

-- both chains have an edge after the next one
abbrev pub Inside : ℕ → ℕ → Side → Side → Type 0
Inside n m s t = (s.at + 1 < n) × (t.at + 2 < m)

pub half-start : {l : List ℤ} {n : ℕ} {s t : Side} → Valid l → Chains (points l) n → (s.at ≡ 0) × Carried l s → (t.at ≡ n) × Carried l t
    → HalfAt l n s t
half-start {l} {n} v h a b = record {
  valid = v;
  chains = h;
  right_side = a.1;
  left-side = b.1;
  antipodal = rw (a.0, b.0) (antipodal-start h);
}

module _ {l : List ℤ} {n : ℕ} {s t : Side} (h : HalfAt l n s t) where
  pub half-edges : Small (2 ^ 22) (next_of s) × Small (2 ^ 22) (next_of t)
  half-edges = (
    edge-fits h.valid.in_range h.valid.shape.some h.right_side,
    edge-fits h.valid.in_range h.valid.shape.some h.left-side,
  )

  pub half-corners : Small (2 ^ 21) (corner_of s) × Small (2 ^ 21) (corner_of t)
  half-corners = (
    corner-fits h.valid.in_range h.valid.shape.some h.right_side,
    corner-fits h.valid.in_range h.valid.shape.some h.left-side,
  )

  -- a shape has few corners
  pub half_room : (s.at + t.at ≤ 2 ^ 17) × (n + length (edges (points l)) ≤ 2 ^ 17)
  half_room = (
    omega (arith, h.right_side.at_in, h.left-side.at_in, edges-at-most (points l), h.valid.few, corners-small),
    omega (arith, chains-in h.chains, edges-at-most (points l), h.valid.few, corners-small),
  )

  -- no chain ends soon
  module _ {m : ℕ} (all : m ≡ length (edges (points l))) (inside : Inside n m s t) where
    pub inside_on : s.at + t.at < n + m
    inside_on = omega (arith, inside.0, inside.1)

    pub inside-left : (s.at + 2 < s.end) × (t.at + 2 < t.end)
    inside-left = (
      omega (arith, inside.0, h.right_side.end_is, h.chains.within, edges_some (points l) many),
      omega (arith, inside.1, h.left-side.end_is, all),
    )
      where
        many : 1 < length (points l)
        many = omega (arith, inside.0, h.chains.within)

    pub inside-told : {z : ℤ} → z ≡ cross (next_of s) (next_of t) → {b : Bool} → lt_z z (pos 0) ≡ b
        → b ≡ goes_right n m s.at t.at (cross (next_of s) (next_of t))
    inside-told e q = rw (ne_eqb s.at n (λ r. omega (arith, inside.0)), ne_eqb t.at m (λ r. omega (arith, inside.1)))
        (sym q ∙ ap (λ (x : ℤ). lt_z x (pos 0)) e)

  -- the side of the right-hand chain has moved, or that of the left-hand one
  module _ {m : ℕ} (all : m ≡ length (edges (points l))) (on : s.at + t.at < n + m) {w : Bool}
      (told : w ≡ goes_right n m s.at t.at (cross (next_of s) (next_of t))) {s' t' : Side}
      (a : (s'.at ≡ cond (not w) s.at (onward (points l) s.at)) × Carried l s')
      (b : (t'.at ≡ cond w t.at (onward (points l) t.at)) × Carried l t') where
    moved : HalfStep (points l) n s.at t.at s'.at t'.at
    moved = rw (a.0, b.0) (half_step (chains-in h.chains) h.antipodal.right-in h.antipodal.left_in (omega arith)
        (told ∙ ap₂ (λ (k : ℕ) (x : ℤ). goes_right n k s.at t.at x) all (ap₂ cross h.right_side.edge-is h.left-side.edge-is)))

    fewer : {k l' : ℕ} → HalfStep (points l) n s.at t.at k l' → n + m - (k + l') < n + m - (s.at + t.at)
    fewer (right g x) = omega arith
    fewer (left g x) = omega arith

    pub half-on : HalfStep (points l) n s.at t.at s'.at t'.at × HalfAt l n s' t'
        × (n + m - (s'.at + t'.at) < n + m - (s.at + t.at))
    half-on = (
      moved,
      record {
        valid = h.valid;
        chains = h.chains;
        right_side = a.1;
        left-side = b.1;
        antipodal = antipodal-step h.valid.shape h.chains h.antipodal moved;
      },
      fewer moved,
    )
