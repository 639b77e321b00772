-- `begun` meets its contract: where no edge is passed is the first corner.
use mathlib.Core.Path.{◌≡◌, refl, sym, ◌∙◌, ap, subst}
use Prim.Native.Nat.{zero-le}
use mathlib.Core.Bool.{false}
use Rattle.polygon.specs.theory.Small.{small-wide}
use Rattle.calipers.specs.Image.{image}
use Rattle.calipers.specs.Side.{walk_of}
use Rattle.calipers.specs.Walk.{here, begun, At}
use Rattle.calipers.specs.theory.Carry.{sides-walk, sides-here, here-near, corners-fit}
use Rattle.separation.specs.theory.Image.{image-begun}
use Rattle.separation.specs.theory.Stops.{on_below, corner-here}
use Rattle.clearance.proofs.facing.begun.Goals as goal
use Rattle.clearance.proofs.facing.begun.Goals.{After-side_at-t}

starts : (c : After-side_at-t) → At c.args.a.now (image c.args.b.now) begun
starts c = image-begun _ _ c.requires.0 c.requires.1

begins : (c : After-side_at-t) → walk_of c.side_at-s.result c.side_at-t.result false ≡ begun
begins c = sides-walk begun c.side_at-s.result c.side_at-t.result c.side_at-s.ensures.0 c.side_at-t.ensures.0

placed : (c : After-side_at-t) → At c.args.a.now (image c.args.b.now) (walk_of c.side_at-s.result c.side_at-t.result false)
placed c = subst (At _ _) (sym (begins c)) (starts c)

pub here-requires : goal.here-requires
here-requires c = corners-fit (placed c) c.side_at-s.ensures.1 c.side_at-t.ensures.1

pub returns : goal.returns
returns c =
    let w = (goal.at.returns c).After-side_at-t in
    let is = c.seen.ensures ∙ c.here.ensures ∙ sides-here (placed w) c.side_at-s.ensures.1 c.side_at-t.ensures.1
    ∙ ap (here _ _) (begins w) in (
      small-wide (here-near (starts w) is),
      is ∙ corner-here _ _ (starts w) 0 (on_below _ _ (starts w) 0 zero-le refl),
    )
