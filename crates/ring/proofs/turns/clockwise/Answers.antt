-- `clockwise` meets its contract.
use mathlib.Core.Path.{sym, ◌∙◌, ap}
use Prim.Native.Nat.{ℕ, ◌-◌}
use mir.Syntax.{w64}
use native.Mathlib.Omega.{arith}
use lib.IntN.{ℤ, pos}
use lib.ListN.{length, get_or}
use lib.Signed.{lt_z}
use Rattle.integer.specs.Machine.{result-is}
use Rattle.plane.specs.Point.{points, corner}
use Rattle.plane.specs.Turn.{turn}
use Rattle.ring.specs.theory.Steps.{clockwise-at}
use Rattle.ring.proofs.turns.clockwise.Goals as goal

pub turn_at-requires : goal.turn_at-requires
turn_at-requires c =
    let placed = c.requires.0 in
    let some = c.requires.1 in
    (placed.below _ (omega (arith, some)), placed.below 0 some, placed.below _ c.next.ensures.upper_bound, placed.near)

pub returns : goal.returns
returns c =
    let ps = points c.args.list.now in
    let kept = c.args.kept.now in
    ap (λ (t : ℤ). lt_z t (pos 0)) (result-is w64 c.turn_at.type_inv (c.turn_at.ensures
    ∙ ap (λ (i : ℕ). turn (corner ps (get_or kept (length kept - 1) 0)) (corner ps (get_or kept 0 0)) (corner ps (get_or kept i 0)))
    c.next.ensures.value)) ∙ sym (clockwise-at (corner ps) kept c.requires.1)
