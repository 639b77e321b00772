-- `open_count` meets its contract.
use mathlib.Core.Path.{sym, ◌∙◌, ap}
use mathlib.Core.Bool.{Bool, cond, ◌&&◌}
use Prim.Native.Nat.{ℕ, ◌-◌}
use native.Mathlib.Omega.{arith}
use lib.Dec.{ltb}
use lib.ListN.{length}
use Rattle.plane.specs.Point.{points, corner, origin, same_point}
use Rattle.ring.specs.theory.Steps.{closed_at, opened-count}
use Rattle.ring.proofs.open_count.Goals as goal

pub overflow_sub-n : goal.overflow_sub-n
overflow_sub-n c = omega (arith, c.count-n.ensures, c.requires)

pub less_closing-requires : goal.less_closing-requires
less_closing-requires c =
    (c.requires, omega (arith, c.count-n.ensures, c.requires))

pub returns : goal.returns
returns c =
    let ps = points c.args.list.now in
    c.less_closing.ensures
    ∙ ap (λ (n : ℕ). cond (ltb 1 n && same_point (corner ps 0) (corner ps (n - 1))) (n - 1) n) c.count-n.ensures
    ∙ ap (λ (t : Bool). cond t (length ps - 1) (length ps)) (sym (closed_at (λ p. p) origin ps)) ∙ sym (opened-count (λ p. p) ps)
