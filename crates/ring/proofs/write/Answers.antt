-- `write` meets its contract. The invariant: k corners of the answer are in the output.
use mathlib.Core.Path.{◌≡◌, sym, ◌∙◌, ap, subst}
use mathlib.Core.List.{List, map}
use Prim.Native.Nat.{ℕ, ◌+◌, ◌*◌}
use native.Mathlib.Omega.{arith}
use lib.IntN.{ℤ}
use lib.ListN.{length, length-map}
use Rattle.plane.specs.Point.{Point, points, numbers, corner}
use Rattle.plane.proofs.theory.lists.Flat.{numbers-length}
use Rattle.plane.proofs.theory.lists.Filled.{Filled, filled-corner, filled-done}
use Rattle.ring.specs.theory.Steps.{map_at}
use Rattle.ring.proofs.write.Goals as goal
use Rattle.ring.proofs.write.Goals.{Start}

-- the answer has two numbers for each corner
two-each : (c : Start)
    → length (numbers (map (corner (points c.args.list.now)) c.args.places.now)) ≡ 2 * length c.args.places.now
two-each c =
    let f = corner (points c.args.list.now) in
    numbers-length (map f c.args.places.now) ∙ ap (λ (n : ℕ). 2 * n) (length-map c.args.places.now f)

pub loop-k-preserved : goal.loop-k-preserved
loop-k-preserved c =
    let k = c.loop-k.k in
    let f = corner (points c.args.list.now) in
    let ps = map f c.args.places.now in
    let at = c.corner_at.ensures ∙ sym (map_at f c.args.places.now k c.loop-k-test.true) in
    subst (λ (out : List ℤ). Filled c.args.out.now (numbers ps) (2 * (k + 1)) out) (sym c.put.ensures)
    (filled-corner ps k c.loop-k.invariant (omega (arith, c.loop-k-test.true, length-map c.args.places.now f))
    (omega (arith, two-each (goal.at.loop-k-preserved c).Start, c.requires.1)) (ap (λ (p : Point). p.x) at)
    (ap (λ (p : Point). p.y) at))

pub returns : goal.returns
returns c =
    filled-done c.loop-k.invariant
    (omega (arith, c.loop-k-test.false, two-each (goal.at.returns c).Start))
