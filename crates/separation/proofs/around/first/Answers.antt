-- `first` meets its contract: the walk begins there.
use mathlib.Core.Path.{◌≡◌, refl, sym, ◌∙◌, ap, subst}
use Prim.Native.Nat.{zero-le}
use mathlib.Core.Bool.{false}
use Rattle.calipers.specs.Image.{image}
use Rattle.calipers.specs.Side.{walk_of}
use Rattle.calipers.specs.Walk.{here, begun, At}
use Rattle.calipers.specs.theory.Carry.{here-near, sides-walk, sides-here, corners-fit}
use Rattle.separation.specs.theory.Image.{image-begun}
use Rattle.separation.specs.theory.Stops.{on_below, corner-here}
use Rattle.separation.proofs.around.first.Goals as goal
use Rattle.separation.proofs.around.first.Goals.{After-side_at-2, Start}

starts : (c : Start) → At c.args.a.now (image c.args.b.now) begun
starts c = image-begun _ _ c.requires.0 c.requires.1

begins : (c : After-side_at-2) → walk_of c.side_at.result c.side_at-2.result false ≡ begun
begins c = sides-walk begun c.side_at.result c.side_at-2.result c.side_at.ensures.0 c.side_at-2.ensures.0

stands : (c : After-side_at-2) →
    At c.args.a.now (image c.args.b.now) (walk_of c.side_at.result c.side_at-2.result false)
stands c = subst (At _ _) (sym (begins c)) (starts c.before.before)

pub here-requires : goal.here-requires
here-requires c = corners-fit (stands c) c.side_at.ensures.1 c.side_at-2.ensures.1

pub returns : goal.returns
returns c = let start = starts c.before.before.before in
    let is = c.here.ensures ∙ sides-here (stands c.before) c.side_at.ensures.1 c.side_at-2.ensures.1 in
    record {
      result_value = is ∙ ap (here _ _) (begins c.before) ∙ corner-here _ _ start 0 (on_below _ _ start 0 zero-le refl);
      small =
          here-near (stands c.before) is;
    }
