-- `outermost` meets its contract: the corners at which they cease to go up, right and left are the outermost.
use mathlib.Core.Path.{sym, ◌∙◌, ap, ap₂, subst}
use Prim.Native.Nat.{ℕ, ◌-◌, ◌^◌}
use lib.ListN.{length}
use Rattle.plane.specs.Point.{points, corner, opposite}
use Rattle.polygon.specs.Point.{Small}
use Rattle.polygon.specs.theory.Small.{small-corner}
use Rattle.sums.specs.Turning.{Turning, crossing}
use Rattle.sums.specs.theory.Outermost.{upward, leftward, extended}
use Rattle.sums.proofs.extent.outermost.Goals as goal
use Rattle.sums.proofs.extent.outermost.Goals.{After-turning, After-turning-top}

pub opposite-requires : goal.opposite-requires
opposite-requires c =
    let v = c.requires in
    let left = small-corner _ v.in_range _ c.round-left.ensures.upper_bound c.corner_at-3.ensures in
    let first = small-corner _ v.in_range 0 v.shape.some c.corner_at-4.ensures in
    subst (Small (2 ^ 21)) (sym c.across-low.ensures) (record { small-x = left.small-x; small-y = first.small-y })

-- the three positions, with the count of corners in place of what `count` answered
top : (c : After-turning-top) → let ps = points c.args.list.now in
    Turning ps upward 0 (length ps - 1) c.turning-top.result
top c =
    let ps = points c.args.list.now in
    subst (λ (n : ℕ). Turning ps upward 0 (n - 1) c.turning-top.result) c.count-n.ensures c.turning-top.ensures

left : (c : After-turning) →
    let ps = points c.args.list.now in
    Turning ps leftward c.turning-top.result (length ps) c.turning.result
left c =
    let ps = points c.args.list.now in
    subst (λ (n : ℕ). Turning ps leftward c.turning-top.result n c.turning.result) c.count-n.ensures
    c.turning.ensures

pub returns : goal.returns
returns c =
    let ps = points c.args.list.now in
    extended ps c.requires.shape (top c.before.before.before.before.before.before.before.before.before.before) c.turning-right.ensures
    (left c.before.before.before.before.before.before.before.before)
    (c.across-high.ensures ∙ ap₂ crossing c.corner_at.ensures c.corner_at-2.ensures)
    (c.opposite.ensures ∙ ap opposite (c.across-low.ensures ∙ ap₂ crossing
    (c.corner_at-3.ensures ∙ ap (corner ps) c.round-left.ensures.value)
    c.corner_at-4.ensures))
