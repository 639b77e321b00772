-- `admit_each` meets its contract: the refusal of the first two lists is given before the third's.
use Rattle.std.proofs.Common.{◌++◌}
use Rattle.plane.specs.Refusal.{shape_rows}
use Rattle.plane.proofs.theory.refusals.Rows.{none-join}
use Rattle.plane.proofs.theory.refusals.Accept.{valid→accepted}
use Rattle.admission.specs.theory.Judged.{refuses-append, refuses-join, held, refusal-of, hands-on}
use Rattle.crossing.proofs.floors.admit_each.Goals as goal

pub returns-in_err-admit_two : goal.returns-in_err-admit_two
returns-in_err-admit_two c =
    hands-on _ _ c.from_residual.ensures.1 (refuses-append (shape_rows 3 c.args.c.now) (refusal-of c.in_err-admit_two.ensures))

pub returns : goal.returns
returns c =
    let args = c.args in
    let both = held c.in_ok-admit_two.ensures in
    let third = c.admit.ensures in
    let passed = none-join (shape_rows 1 args.a.now) (shape_rows 2 args.b.now) (valid→accepted _ 1 both.0) (valid→accepted _ 2 both.1) in
    record {
      valid = λ e. (both.0, both.1, third.valid e);
      no = λ r e. refuses-join (shape_rows 1 args.a.now ++ shape_rows 2 args.b.now) passed (third.no r e);
    }
