-- `merge_within` meets its contract: the shape is made in the buffer and delivered.
use Rattle.std.specs.Prelude.{refl, ℤ, pos}
use Rattle.std.proofs.Common.{arith, replicate}
use Rattle.std.proofs.lemmas.List.{length-replicate}
use Rattle.plane.specs.Floor.{on, two_shapes}
use Rattle.plane.proofs.theory.lists.Flat.{points-length}
use Rattle.polygon.specs.theory.Fronts.{front_length}
use Rattle.delivery.specs.theory.Delivery.{front-paired, made-delivered}
use Rattle.pair_questions.proofs.merging.merge_within.Goals as goal

pub merge-n-requires : goal.merge-n-requires
merge-n-requires g c =
    let args = c.args in
    let held = length-replicate {A = ℤ} g.row.N (pos 0) in (
      c.requires.0,
      c.requires.1,
      omega (
        arith,
        c.requires.2,
        held,
        points-length args.a.now,
        points-length args.b.now,
        points-length (replicate g.row.N (pos 0)),
      ),
    )

pub shared_whole_as_front-deliver : goal.shared_whole_as_front-deliver
shared_whole_as_front-deliver g c =
    (omega (arith, front_length c.merge-n.ensures, c.merge-n.auto.buf, length-replicate {A = ℤ} g.row.N (pos 0)), omega arith)

pub deliver-requires : goal.deliver-requires
deliver-requires g c = record { paired = front-paired c.merge-n.ensures }

pub returns : goal.returns
returns g c =
    let args = c.args in
    made-delivered c.merge-n.ensures (two_shapes (on args.a.now args.floor) (on args.b.now args.floor))
    (record { first-valid = c.requires.0; second-valid = c.requires.1; one-floor = refl }) args.out.now
    c.deliver.ensures.0 c.deliver.ensures.1
