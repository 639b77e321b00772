-- `trimmed` meets its contract: an end is left out unless it lies to the right.
use Rattle.std.specs.Int.{from_bool}
use mathlib.Core.Path.{◌≡◌, ◌∙◌, ap, refl}
use mathlib.Core.Bool.{Bool, true, false, not}
use Prim.Native.Nat.{ℕ, ◌+◌, ◌-◌}
use native.Mathlib.Omega.{arith}
use Rattle.plane.specs.Point.{points, corner}
use Rattle.polygon.specs.Point.{at}
use Rattle.sorting.specs.Order.{closed}
use Rattle.hull.specs.Chain.{is_right, one}
use Rattle.hull.proofs.rows.trimmed.Goals as goal

-- a position passed unless it is on the right, as a sum
unless : (b : Bool) → from_bool (not b) ≡ 1 - one b
unless true = refl
unless false = refl

when : (b : Bool) → from_bool b ≡ one b
when true = refl
when false = refl

pub is_right-requires : goal.is_right-requires
is_right-requires c = (omega (arith, c.requires.0, c.requires.1), c.requires.2.some, c.requires.2.near, c.requires.3, c.requires.4)

pub is_right-requires-2 : goal.is_right-requires-2
is_right-requires-2 c =
    let pre = c.requires in
    (pre.1, pre.2.some, pre.2.near, pre.3, pre.4)

pub returns : goal.returns
returns c =
    let right : ℕ → Bool = λ i. is_right (at c.args.from) (at c.args.to) (corner (closed (points c.args.list.now)) i) in (
      ap (λ (n : ℕ). c.args.low + n) (c.from.ensures ∙ ap (λ b. from_bool (not b)) c.is_right.ensures ∙ unless (right c.args.low)),
      ap (λ (n : ℕ). c.args.high + n) (c.from-2.ensures ∙ ap from_bool c.is_right-2.ensures ∙ when (right c.args.high)),
    )
