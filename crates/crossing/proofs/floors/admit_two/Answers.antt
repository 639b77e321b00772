-- `admit_two` meets its contract: the first list's refusal is given before the second's.
use Rattle.plane.specs.Refusal.{shape_rows}
use Rattle.plane.proofs.theory.refusals.Accept.{valid→accepted}
use Rattle.admission.specs.theory.Judged.{refuses-append, held, refusal-of, hands-on}
use Rattle.crossing.specs.theory.High.{judged-next}
use Rattle.crossing.proofs.floors.admit_two.Goals as goal

pub returns-in_err-admit : goal.returns-in_err-admit
returns-in_err-admit c =
    hands-on _ _ c.from_residual.ensures.1 (refuses-append (shape_rows 2 c.args.b.now) (refusal-of c.in_err-admit.ensures))

pub returns : goal.returns
returns c =
    let first = held c.in_ok-admit.ensures in judged-next (shape_rows 1 c.args.a.now) first (valid→accepted _ 1 first) c.admit-2.ensures
