-- `relation` meets its contract: the lists are read, the relation is asked for, and the reply packed.
use mathlib.Core.Path.{refl, sym}
use mathlib.Core.List.{List}
use lib.IntN.{ℤ}
use lib.Seq.{length-take-le}
use Rattle.plane.specs.Floor.{on}
use Rattle.plane.specs.Question.{ask_relation}
use Rattle.crossing.specs.LowFloor.{low_floor}
use Rattle.calls.specs.theory.Fits.{relation-fits}
use Rattle.bytewise.specs.theory.Packed.{narrow}
use Rattle.bytewise.specs.theory.Alike.{pair-packed}
use Rattle.calls.proofs.lent.relation.Goals as goal

pub slice_bounds-cocklesway_relation-end-2 : goal.slice_bounds-cocklesway_relation-end-2
slice_bounds-cocklesway_relation-end-2 c =
    sym (length-take-le _ c.read-m.new.numbers c.read-m.ensures.0)

pub slice_bounds-cocklesway_relation-end-4 : goal.slice_bounds-cocklesway_relation-end-4
slice_bounds-cocklesway_relation-end-4 c =
    sym (length-take-le _ c.read-n.new.numbers c.read-n.ensures.0)

pub packed_reply-requires : goal.packed_reply-requires
packed_reply-requires c = narrow _ c.cocklesway_relation.ensures (relation-fits _ _)

pub returns : goal.returns
unfolding low_floor
returns c =
    let args = c.args in
    let f = args.f in
    let g = args.g in
    pair-packed f g (λ (l m : List ℤ). low_floor (ask_relation (on l f) (on m g))) (λ l m. refl)
    c.read-m.ensures.1 c.read-n.ensures.1 c.cocklesway_relation.ensures c.packed_reply.ensures
