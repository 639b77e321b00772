-- `log_entry` meets its contract: a bad record, too few current shapes, too small an output, or the corners are read.
use Rattle.std.specs.Prelude.{◌≡◌, false}
use Rattle.std.proofs.Common.{sym, arith}
use Rattle.journal.specs.Format.{records}
use Rattle.journal.specs.Reading.{damaged}
use Rattle.journal.proofs.theory.Survey.{surveyed-ends}
use Rattle.admission.specs.theory.Judged.{handed-on}
use Rattle.log_questions.specs.theory.Entries.{entry-damaged, entry-few, entry-room, entry_found}
use Rattle.log_questions.proofs.books.log_entry.Goals as goal
use Rattle.log_questions.proofs.books.log_entry.Goals.{In_ok-survey}

-- past the survey no record is bad
sound : (c : In_ok-survey) → damaged (records c.args.log.now) ≡ false
sound c = (surveyed-ends _ _ (sym c.in_ok-survey.ensures)).0

pub returns-in_err-survey : goal.returns-in_err-survey
returns-in_err-survey c =
    rw (handed-on _ _ c.from_residual.ensures.1) (entry-damaged _ _ _ _ (sym c.in_err-survey.ensures))

pub entry-requires : goal.entry-requires
entry-requires c = sound c

pub returns-in_default : goal.returns-in_default
returns-in_default c = entry-few _ _ _ (sound (goal.at.returns-in_default c).In_ok-survey) c.in_default.ensures

pub returns-then-out-head : goal.returns-then-out-head
returns-then-out-head c =
    entry-room _ _ _ (sound (goal.at.returns-then-out-head c).In_ok-survey) _ c.in-Some.ensures c.if-out-head.true

pub decode-requires : goal.decode-requires
decode-requires c = (c.in-Some.ensures.stated.inside, omega (arith, c.if-out-head.false))

pub returns : goal.returns
returns c =
    entry_found _ _ _ (sound (goal.at.returns c).In_ok-survey) _ c.in-Some.ensures (omega (arith, c.if-out-head.false)) c.decode.ensures
