-- `cross` meets its contract: products of small parts, and their difference, fit 64 bits.
use mathlib.Core.Path.{◌≡◌, ◌∙◌}
use Prim.Native.Nat.{◌^◌}
use mir.Syntax.{w32}
use mir.Val.{to_z, of_z}
use mir.Facts.{to_z-of_z}
use lib.IntN.{ℤ}
use Rattle.integer.specs.Bound.{Within}
use Rattle.integer.specs.Machine.{Machine, known, machine, within-fits, machine-fits, machine-is}
use Rattle.plane.specs.Turn.{cross as turn_cross}
use Rattle.polygon.proofs.point.cross.Goals as goal
use Rattle.polygon.proofs.point.cross.Goals.{After-from-4}

-- a part, widened to 64 bits
abbrev widened : {x v : ℤ} → x ≡ to_z w32 (of_z w32 v) → Within (2 ^ 22) v → Machine x
widened e h = known (e ∙ to_z-of_z {w = w32} (within-fits tt h)) h

pub overflow_sub-result : goal.overflow_sub-result
overflow_sub-result c =
    let e = c.requires.0 in
    let f = c.requires.1 in
    let ex = widened c.from.ensures e.small-x in
    let fy = widened c.from-2.ensures f.small-y in
    let ey = widened c.from-3.ensures e.small-y in
    let fx = widened c.from-4.ensures f.small-x in
    machine-fits (search machine depth 40) tt

pub returns : goal.returns
unfolding turn_cross
returns c =
    let e = c.requires.0 in
    let f = c.requires.1 in
    let ex = widened c.from.ensures e.small-x in
    let fy = widened c.from-2.ensures f.small-y in
    let ey = widened c.from-3.ensures e.small-y in
    let fx = widened c.from-4.ensures f.small-x in
    machine-is (search machine depth 40) tt
