-- `judge` meets its contract: the list is read, judged, and the reply packed.
use mathlib.Core.Path.{refl, sym}
use mathlib.Core.List.{List}
use lib.IntN.{ℤ}
use lib.Seq.{length-take-le}
use Rattle.plane.specs.Floor.{on}
use Rattle.plane.specs.Question.{ask_judge}
use Rattle.crossing.specs.LowFloor.{low_floor}
use Rattle.calls.specs.theory.Fits.{judged-fits}
use Rattle.bytewise.specs.theory.Packed.{narrow}
use Rattle.bytewise.specs.theory.Alike.{one-packed}
use Rattle.calls.proofs.lent.judge.Goals as goal

pub slice_bounds-cocklesway_judge-end-2 : goal.slice_bounds-cocklesway_judge-end-2
slice_bounds-cocklesway_judge-end-2 c = sym (length-take-le _ c.read-n.new.numbers c.read-n.ensures.0)

pub packed_reply-requires : goal.packed_reply-requires
packed_reply-requires c = narrow _ c.cocklesway_judge.ensures (judged-fits _)

pub returns : goal.returns
unfolding low_floor
returns c =
    let floor = c.args.floor in
    one-packed floor (λ (l : List ℤ). low_floor (ask_judge (on l floor))) (λ l. refl) c.read-n.ensures.1
    c.cocklesway_judge.ensures c.packed_reply.ensures
