-- `merge` meets its contract: both chains are the shape of both lists, or its one corner is.
use mathlib.Core.Path.{sym, ◌∙◌, subst}
use mathlib.Core.List.{List}
use native.Mathlib.Omega.{arith}
use Rattle.plane.specs.Point.{Point}
use Rattle.plane.proofs.theory.lists.Flat.{points-length}
use Rattle.polygon.specs.Front.{Front}
use Rattle.hull.specs.theory.OnePoint.{same_shape}
use Rattle.hull.specs.theory.Written.{front-one}
use Rattle.hull.proofs.merge.Goals as goal

pub both_chains-requires : goal.both_chains-requires
both_chains-requires c = (
  c.requires.0,
  c.requires.1,
  record {
    start = c.foremost-bottom.ensures;
    end = c.foremost-top.ensures;
    apart = sym c.precedes.ensures ∙ c.if-precedes.true;
    first-peak = c.top-i.ensures;
    second-peak = c.top-j.ensures;
  },
  c.requires.2,
)

pub put-requires : goal.put-requires
put-requires c =
    omega (arith, c.requires.0.shape.some, c.requires.2, points-length c.args.buf.now)

pub returns : goal.returns
returns c =
    subst (λ (ps : List Point). Front ps 1 c.put.new.out)
    (same_shape c.requires.0.shape c.requires.1.shape c.foremost-bottom.ensures c.foremost-top.ensures
    c.top-i.ensures c.top-j.ensures (sym c.precedes.ensures ∙ c.if-precedes.false))
    (front-one c.args.buf.now (omega (arith, c.requires.0.shape.some, c.requires.2)) c.put.ensures)
