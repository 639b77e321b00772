-- `follows` meets its contract: no edge is passed, or none is next, or two sides compare them.
use mathlib.Core.Path.{sym, ◌∙◌, ap, ap₂}
use native.Mathlib.Omega.{arith}
use borrow.Author.Tests.{ne_eqb}
use Rattle.plane.specs.Point.{points, corner}
use Rattle.plane.specs.Forms.{before, edges}
use Rattle.calipers.specs.theory.Sides.{edge-fits}
use Rattle.sums.proofs.walk.follows.Goals as goal

pub side_at-requires : goal.side_at-requires
side_at-requires c =
    let pre = c.requires in (omega (arith, pre.0), pre.2.in_range, pre.2.shape.some)

pub is_before-requires : goal.is_before-requires
is_before-requires c =
    let pre = c.requires in (
      edge-fits pre.2.in_range pre.2.shape.some c.side_at.ensures.1,
      edge-fits pre.3.in_range pre.3.shape.some c.side_at-2.ensures.1,
    )

pub returns : goal.returns
returns c =
    let second = c.side_at-2.ensures in
    let first = c.side_at.ensures in
    rw (
      ne_eqb c.args.i 0 c.if-i-eq0.false,
      ne_eqb c.args.j _ (λ e. c.if-j-sides.false (e ∙ sym c.sides.ensures)),
    ) (c.is_before.ensures ∙ ap₂ before (first.1.edge-is ∙ ap (corner (edges (points c.args.a.now))) first.0)
    (second.1.edge-is ∙ ap (corner (edges (points c.args.b.now))) second.0))
