-- `sought` meets its contract: where the walk round the differences stops is a direction that faces the least distance.
use mathlib.Core.Path.{sym, subst}
use mathlib.Core.List.{List}
use Rattle.plane.specs.Point.{Point, points}
use Rattle.polygon.specs.Point.{at}
use Rattle.separation.specs.theory.Image.{image-visited}
use Rattle.clearance.specs.Stop.{Stopped}
use Rattle.clearance.specs.Sight.{NoOrigin}
use Rattle.clearance.specs.theory.Walked.{corners-some, stopped-facing}
use Rattle.clearance.proofs.sought.Goals as goal

pub facing-requires : goal.facing-requires
facing-requires c =
    let u = c.requires.0 in
    let v = c.requires.1 in (
      u,
      v,
      c.requires.3,
      c.requires.4,
      subst NoOrigin (sym (image-visited c.args.a.now c.args.b.now u v))
          (corners-some (points c.args.a.now) (points c.args.b.now) u.shape v.shape c.requires.2),
    )

pub returns : goal.returns
returns c =
    let u = c.requires.0 in
    let v = c.requires.1 in (
      c.facing.ensures.0,
      stopped-facing (points c.args.a.now) (points c.args.b.now) u.shape v.shape c.requires.2
          (subst (λ (D : List Point). Stopped D (at c.facing.result.n))
          (image-visited c.args.a.now c.args.b.now u v) c.facing.ensures.1),
    )
