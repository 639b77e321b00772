-- `is_between` meets its contract.
use mir.Syntax.{w32}
use mathlib.Core.Path.{sym, ◌∙◌, ap, ap₂}
use mathlib.Core.Bool.{Bool, ◌&&◌}
use lib.Signed.{lt_z}
use mir.Facts.{to_z-of_z}
use Rattle.sorting.proofs.interior.is_between.Goals as goal

pub returns-then-low-z : goal.returns-then-low-z
returns-then-low-z c =
    let args = c.args in
    ap₂ lt_z (to_z-of_z {w = w32} c.ranges.z) (to_z-of_z {w = w32} c.ranges.high)
    ∙ ap (λ (b : Bool). b && lt_z args.z args.high)
    (sym c.if-low-z.true ∙ ap₂ lt_z (to_z-of_z {w = w32} c.ranges.low) (to_z-of_z {w = w32} c.ranges.z))

pub returns-else-low-z : goal.returns-else-low-z
returns-else-low-z c =
    let args = c.args in
    c.if-low-z.false
    ∙ ap (λ (b : Bool). b && lt_z args.z args.high)
    (sym c.if-low-z.false ∙ ap₂ lt_z (to_z-of_z {w = w32} c.ranges.low) (to_z-of_z {w = w32} c.ranges.z))
