-- `log_add` meets its contract: the list is refused, or a record is bad, or the shape is added after the last record.
use Rattle.std.proofs.Common.{sym}
use Rattle.journal.proofs.theory.Survey.{surveyed-ends}
use Rattle.admission.specs.theory.Judged.{held, refusal-of, handed-on}
use Rattle.log_questions.specs.theory.Logs.{add-refused, add-damaged}
use Rattle.log_questions.proofs.log_add.Goals as goal

pub returns-in_err-admit : goal.returns-in_err-admit
returns-in_err-admit c =
    rw (handed-on _ _ c.from_residual.ensures.1) (add-refused _ _ _ _ _ (refusal-of c.in_err-admit.ensures))

pub returns-in_err-end : goal.returns-in_err-end
returns-in_err-end c =
    rw (handed-on _ _ c.from_residual-in_err-end.ensures.1)
    (add-damaged _ _ _ _ _ (held c.in_ok-admit.ensures) _ (sym c.in_err-end.ensures))

pub add_after-requires : goal.add_after-requires
add_after-requires c =
    let told = surveyed-ends _ _ (sym c.in_ok-end.ensures) in (held c.in_ok-admit.ensures, told.0, told.1)
