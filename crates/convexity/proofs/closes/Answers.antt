-- `closes` meets its contract: the edge before the closing one, and the closing one.
use mathlib.Core.Path.{◌≡◌, ◌∙◌, ap, ap₂}
use mathlib.Core.Bool.{false}
use Prim.Native.Nat.{ℕ, ◌-◌}
use native.Mathlib.Omega.{arith}
use lib.ListN.{length}
use Rattle.plane.specs.Point.{Point, points, corner, ◌⊖◌}
use Rattle.plane.specs.Forms.{edges}
use Rattle.polygon.specs.theory.Small.{small-corner, small-edge, small-wide}
use Rattle.convexity.specs.Stretch.{vector, goes_on}
use Rattle.convexity.specs.theory.Stretches.{edge-home}
use Rattle.convexity.proofs.closes.Goals as goal
use Rattle.convexity.proofs.closes.Goals.{After-between-home}

pub between-home-requires : goal.between-home-requires
between-home-requires c =
    let l = c.args.list.now in
    let n = c.count-n.ensures in
    let r = c.requires.1 in (
      small-corner l r _ (omega (arith, n, c.requires.0)) c.corner_at.ensures,
      small-corner l r _ (omega (arith, c.requires.0)) c.corner_at-2.ensures,
    )

-- the closing edge, from the last corner to the first
home-is : (c : After-between-home) → let ps = points c.args.list.now in
    vector c.between-home.result ≡ corner ps 0 ⊖ corner ps (length ps - 1)
home-is c =
    let ps = points c.args.list.now in
    c.between-home.ensures ∙ ap₂ (λ (p q : Point). p ⊖ q) c.corner_at-2.ensures
    (c.corner_at.ensures ∙ ap (λ (n : ℕ). corner ps (n - 1)) c.count-n.ensures)

pub goes_on-requires : goal.goes_on-requires
goes_on-requires c =
    let l = c.args.list.now in
    let some = c.requires.0 in (
      c.edge_at-last.ensures.1,
      small-wide (small-edge l c.requires.1 (length (points l) - 1) 0 (omega (arith, some)) (omega (arith, some)) (home-is c)),
    )

pub returns : goal.returns
returns c =
    let ps = points c.args.list.now in
    c.goes_on.ensures ∙ ap₂ (goes_on false)
    (c.edge_at-last.ensures.0 ∙ ap (λ (n : ℕ). corner (edges ps) (n - 2)) c.count-n.ensures)
    (home-is c.before ∙ edge-home ps (length ps - 1) (omega (arith, c.requires.0)) (omega (arith, c.requires.0)))
