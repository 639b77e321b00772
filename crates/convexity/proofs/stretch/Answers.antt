-- `stretch` meets its contract. The invariant: the edges go on up to edge k, which e is.
use mathlib.Core.Path.{◌≡◌, sym, ◌∙◌, ap₂, subst}
use Prim.Native.Nat.{◌+◌, ◌-◌}
use native.Mathlib.Omega.{arith}
use lib.ListN.{length}
use Rattle.plane.specs.Point.{points, corner}
use Rattle.plane.specs.Forms.{edges}
use Rattle.plane.proofs.theory.sum.Positions.{edges_some}
use Rattle.convexity.specs.Stretch.{goes_on, Stretch}
use Rattle.convexity.specs.theory.Stretches.{along-start, along-more, along-end}
use Rattle.convexity.proofs.stretch.Goals as goal
use Rattle.convexity.proofs.stretch.Goals.{After-edge_at-e, After-goes_on}

-- as many edges as corners
sides : (c : After-edge_at-e) → let ps = points c.args.list.now in
    (length (edges ps) ≡ length ps) × (c.count-last.result ≡ length ps)
sides c =
    let ps = points c.args.list.now in
    (edges_some ps (omega (arith, c.requires.0)), c.count-last.ensures)

pub loop-k-init : goal.loop-k-init
loop-k-init c = (along-start (omega (arith, (sides c).0, c.requires.0)), c.edge_at-e.ensures.0, c.edge_at-e.ensures.1)

pub edge_at-f-requires : goal.edge_at-f-requires
edge_at-f-requires c =
    (omega (arith, c.count-last.ensures), c.requires.1)

-- what the test of the next edge says
asked : (c : After-goes_on) →
    let E = edges (points c.args.list.now) in
    goes_on c.args.up (corner E c.loop-k.k) (corner E (c.loop-k.k + 1)) ≡ c.goes_on.result
asked c =
    sym (c.goes_on.ensures ∙ ap₂ (goes_on c.args.up) c.loop-k.invariant.1 c.edge_at-f.ensures.0)

pub loop-k-preserved : goal.loop-k-preserved
loop-k-preserved c =
    let n = sides (goal.at.loop-k-preserved c).After-edge_at-e in
    let on = asked c.before ∙ c.if-not-goes_on.false in (
      along-more _ c.loop-k.invariant.0 (omega (arith, n.0, n.1)) on,
      c.edge_at-f.ensures.0,
      c.edge_at-f.ensures.1,
    )

pub returns : goal.returns
returns c =
    let n = sides (goal.at.returns c).After-edge_at-e in
    let end : c.loop-k.k ≡ c.count-last.result - 2 = omega (arith, n.1, c.requires.0) in
    subst (Stretch (edges (points c.args.list.now)) c.args.up c.args.start) end
    (along-end _ c.loop-k.invariant.0 (λ h. absurd (omega (arith, n.0, n.1, end))))
