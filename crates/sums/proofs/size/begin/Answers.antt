-- `begin` meets its contract: nothing is counted yet, or `skim` has counted.
use mathlib.Core.Path.{refl}
use Rattle.sums.specs.Advance.{side_of}
use Rattle.sums.proofs.Walked.{side_of-carried, walked_start}
use Rattle.sums.proofs.size.begin.Goals as goal

pub returns : goal.returns
returns c =
    let a = c.args.a.now in
    let b = c.args.b.now in
    let place = c.requires.0 in
    walked_start c.args.i c.args.j place c.requires.1 (side_of a c.args.i) (side_of b c.args.j) refl refl
    (side_of-carried a c.args.i place.standing.left_in) (side_of-carried b c.args.j place.standing.right-in)
