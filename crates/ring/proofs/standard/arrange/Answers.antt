-- `arrange` meets its contract. The invariant: k points are in the buffer.
use mathlib.Core.Path.{◌≡◌, sym, ◌∙◌, ap, subst}
use mathlib.Core.List.{List, map}
use Prim.Native.Nat.{ℕ, ◌+◌, ◌*◌}
use native.Mathlib.Omega.{arith}
use lib.IntN.{ℤ}
use lib.ListN.{length, length-map}
use Rattle.plane.specs.Point.{Point, points, numbers, corner}
use Rattle.plane.proofs.theory.lists.Flat.{numbers-length}
use Rattle.plane.proofs.theory.lists.Filled.{Filled, filled-corner, filled-done}
use Rattle.ring.specs.Round.{in_sense}
use Rattle.ring.specs.Ring.{walked}
use Rattle.ring.specs.theory.Steps.{map_at, sense-length}
use Rattle.ring.specs.theory.Under.{walked-length}
use Rattle.ring.proofs.standard.arrange.Goals as goal
use Rattle.ring.proofs.standard.arrange.Goals.{Start}

-- the positions, and their points
module _ (c : Start) where
  abbrev f : ℕ → Point
  f = corner (points c.args.list.now)

  abbrev places : List ℕ
  places = in_sense c.args.back (walked c.args.n c.args.start c.args.n)

  counted : length places ≡ c.args.n
  counted =
      let args = c.args in
      sense-length args.back (walked args.n args.start args.n) ∙ walked-length args.n args.start args.n

  two-each : length (numbers (map f places)) ≡ 2 * c.args.n
  two-each = numbers-length (map f places) ∙ ap (λ (n : ℕ). 2 * n) (length-map places f ∙ counted)

pub loop-k-preserved : goal.loop-k-preserved
loop-k-preserved c =
    let begin = (goal.at.loop-k-preserved c).Start in
    let k = c.loop-k.k in
    let ps = map (f begin) (places begin) in
    let at = c.corner_at.ensures ∙ ap (f begin) c.place_at-place.ensures.0
    ∙ sym (map_at (f begin) (places begin) k (omega (arith, counted begin))) in
    subst (λ (out : List ℤ). Filled c.args.shape.now (numbers ps) (2 * (k + 1)) out) (sym c.put.ensures)
    (filled-corner ps k c.loop-k.invariant (omega (arith, counted begin, length-map (places begin) (f begin)))
    (omega (arith, two-each begin)) (ap (λ (p : Point). p.x) at) (ap (λ (p : Point). p.y) at))

pub returns : goal.returns
returns c = filled-done c.loop-k.invariant (omega (arith, two-each (goal.at.returns c).Start))
