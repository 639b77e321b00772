-- `sweep_within` meets its contract: the shape is made in the buffer and delivered.
use Rattle.std.proofs.Common.{arith, replicate}
use Rattle.std.proofs.lemmas.List.{length-replicate}
use Rattle.std.specs.Prelude.{ℤ, pos}
use Rattle.plane.specs.Floor.{on}
use Rattle.plane.proofs.theory.lists.Flat.{points-length}
use Rattle.polygon.specs.theory.Fronts.{front_length}
use Rattle.delivery.specs.theory.Delivery.{front-paired, sweep-delivered}
use Rattle.shape_questions.proofs.sweeping.sweep_within.Goals as goal

pub sweep-n-requires : goal.sweep-n-requires
sweep-n-requires g c =
    let args = c.args in (
      c.requires.0,
      omega (
        arith,
        c.requires.1,
        points-length args.list.now,
        points-length (replicate g.row.N (pos 0)),
        length-replicate {A = ℤ} g.row.N (pos 0),
      ),
    )

pub shared_whole_as_front-deliver : goal.shared_whole_as_front-deliver
shared_whole_as_front-deliver g c =
    (omega (arith, front_length c.sweep-n.ensures, c.sweep-n.auto.buf, length-replicate {A = ℤ} g.row.N (pos 0)), omega arith)

pub deliver-requires : goal.deliver-requires
deliver-requires g c = record { paired = front-paired c.sweep-n.ensures }

pub returns : goal.returns
returns g c =
    let args = c.args in
    sweep-delivered (on args.list.now args.floor) c.sweep-n.ensures c.requires.0 args.out.now
    c.deliver.ensures.0 c.deliver.ensures.1
