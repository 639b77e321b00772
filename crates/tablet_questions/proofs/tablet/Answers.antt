-- `tablet` meets its contract: x is refused, or y, or both go back.
use Rattle.std.proofs.Common.{◌≡◌, w32, to_z, of_z, rules}
use Rattle.std.proofs.Math.Facts.{to_z-of_z}
use Rattle.admission.specs.theory.Judged.{handed-on}
use Rattle.tablet.specs.Double.{holding}
use Rattle.tablet_questions.specs.theory.Readings.{refused-x, refused-y, sent-corner}
use Rattle.tablet_questions.proofs.tablet.Goals as goal

pub returns-in_err-m : goal.returns-in_err-m
returns-in_err-m c = rw (handed-on _ _ c.from_residual.ensures.1) (refused-x c.args.x c.args.y _ c.in_err-m.ensures)

pub returns-in_err-n : goal.returns-in_err-n
returns-in_err-n c =
    rw (handed-on _ _ c.from_residual-in_err-n.ensures.1) (refused-y c.args.x c.args.y _ _ c.in_ok-m.ensures c.in_err-n.ensures)

-- a whole number is read back from its bits, and held by the double that goes back
pub returns : goal.returns
unfolding holding
returns c =
    let m : to_z w32 (of_z w32 c.in_ok-m.m) ≡ c.in_ok-m.m = search (rules, to_z-of_z) in
    let n : to_z w32 (of_z w32 c.in_ok-n.n) ≡ c.in_ok-n.n = search (rules, to_z-of_z) in
    rw (c.double.ensures, c.double-2.ensures, m, n) (sent-corner c.args.x c.args.y _ _ c.in_ok-m.ensures c.in_ok-n.ensures)
