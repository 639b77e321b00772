-- `is_right` meets its contract: the sign of the turn.
use mathlib.Core.Path.{sym, ◌∙◌, ap, subst}
use Prim.Native.Nat.{◌^◌}
use lib.IntN.{ℤ, pos}
use lib.Signed.{lt_z}
use mir.Syntax.{w64}
use Rattle.integer.specs.Machine.{result-is}
use Rattle.polygon.specs.Point.{at, Small}
use Rattle.hull.specs.Chain.{is_right}
use Rattle.hull.specs.theory.Peak.{closed-small}
use Rattle.hull.proofs.rows.is_right.Goals as goal

pub turn-requires : goal.turn-requires
turn-requires c =
    let pre = c.requires in (
      pre.3,
      pre.4,
      subst (Small (2 ^ 21)) (sym c.closed_at.ensures)
          (closed-small c.args.list.now pre.2 pre.1 c.args.i pre.0),
    )

pub returns : goal.returns
unfolding is_right
returns c =
    ap (λ (z : ℤ). lt_z z (pos 0)) (result-is w64 c.turn.type_inv c.turn.ensures)
    ∙ ap (is_right (at c.args.from) (at c.args.to)) c.closed_at.ensures
