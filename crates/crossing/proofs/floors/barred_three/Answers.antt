-- `barred_three` meets its contract: what judging refuses, or 13.
use Rattle.std.proofs.Common.{◌++◌}
use Rattle.plane.specs.Refusal.{shape_rows}
use Rattle.plane.proofs.theory.refusals.Rows.{none-join}
use Rattle.plane.proofs.theory.refusals.Accept.{valid→accepted}
use Rattle.crossing.specs.theory.High.{judged-barred}
use Rattle.crossing.proofs.floors.barred_three.Goals as goal

pub returns : goal.returns
returns c =
    let args = c.args in
    judged-barred _ c.admit_each.ensures
    (λ v. none-join (shape_rows 1 args.a.now) (shape_rows 2 args.b.now ++ shape_rows 3 args.c.now) (valid→accepted _ 1 v.0)
    (none-join (shape_rows 2 args.b.now) (shape_rows 3 args.c.now) (valid→accepted _ 2 v.1) (valid→accepted _ 3 v.2)))
    c.refused.ensures.ok c.refused.ensures.err
