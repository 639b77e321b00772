-- `write` meets its contract: the walk round the first shape and the image of the second, from the beginning to its end.
use mathlib.Core.Path.{◌≡◌, sym, ◌∙◌, ap, subst}
use Prim.Native.Nat.{◌*◌, ◌≤◌}
use mathlib.Core.List.{List}
use native.Mathlib.Omega.{arith}
use lib.ListN.{length}
use Rattle.plane.specs.Limits.{max_corners}
use Rattle.plane.specs.Point.{Point, points, numbers}
use Rattle.plane.specs.Corner.{shape_of}
use Rattle.plane.specs.Separation.{differences}
use Rattle.plane.specs.Output.{overwritten}
use Rattle.calipers.specs.Image.{image}
use Rattle.calipers.specs.Walk.{begun}
use Rattle.sums.specs.Advance.{next_corners}
use Rattle.separation.specs.theory.Image.{image-begun, image-all}
use Rattle.separation.proofs.differences.write.Goals as goal
use Rattle.separation.proofs.differences.write.Goals.{Start}

-- all corners of the walk are the shape's: it may write more than any two shapes have together
all : (c : Start) → let args = c.args in
    next_corners args.a.now (image args.b.now) begun 18446744073709551615
    ≡ shape_of (differences (points args.a.now) (points args.b.now))
unfolding max_corners
all c = let pre = c.requires in image-all _ _ pre.0 pre.1 18446744073709551615 (omega (arith, pre.0.few, pre.1.few))

pub walk_round-requires : goal.walk_round-requires
walk_round-requires c =
    let pre = c.requires in (
      (pre.1, pre.2),
      image-begun _ _ pre.0 pre.1,
      omega arith,
      subst (λ (ps : List Point). 2 * length ps ≤ length c.args.out.now) (sym (all (goal.at.walk_round-requires c).Start)) pre.3,
    )

pub returns : goal.returns
returns c =
    let whole = all (goal.at.returns c).Start in (
      c.walk_round.ensures.0.counted ∙ ap length whole,
      c.walk_round.ensures.1 ∙ ap (λ (ps : List Point). overwritten (numbers ps) c.args.out.now) whole,
    )
