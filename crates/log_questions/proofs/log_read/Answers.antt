-- `log_read` meets its contract: a bad record, no record of the name, too small an output, or the corners are read.
use Rattle.std.specs.Prelude.{◌≡◌, false}
use Rattle.std.proofs.Common.{sym, arith}
use Rattle.journal.specs.Format.{records}
use Rattle.journal.specs.Reading.{damaged}
use Rattle.journal.proofs.theory.Survey.{surveyed-ends}
use Rattle.admission.specs.theory.Judged.{handed-on}
use Rattle.log_questions.specs.theory.Logs.{read-damaged, read-missing, read-room, read_found}
use Rattle.log_questions.proofs.log_read.Goals as goal
use Rattle.log_questions.proofs.log_read.Goals.{In_ok-survey}

-- past the survey no record is bad
sound : (c : In_ok-survey) → damaged (records c.args.log.now) ≡ false
sound c = (surveyed-ends _ _ (sym c.in_ok-survey.ensures)).0

pub returns-in_err-survey : goal.returns-in_err-survey
returns-in_err-survey c =
    rw (handed-on _ _ c.from_residual.ensures.1) (read-damaged _ _ _ _ (sym c.in_err-survey.ensures))

pub latest-requires : goal.latest-requires
latest-requires c = sound c

pub returns-in_default : goal.returns-in_default
returns-in_default c = read-missing _ _ _ (sound (goal.at.returns-in_default c).In_ok-survey) c.in_default.ensures

pub returns-then-out-found : goal.returns-then-out-found
returns-then-out-found c =
    read-room _ _ _ (sound (goal.at.returns-then-out-found c).In_ok-survey) _ c.in-Some.ensures c.if-out-found.true

pub decode-requires : goal.decode-requires
decode-requires c = (c.in-Some.ensures.inside, omega (arith, c.if-out-found.false))

pub returns : goal.returns
returns c =
    read_found _ _ _ (sound (goal.at.returns c).In_ok-survey) _ c.in-Some.ensures (omega (arith, c.if-out-found.false)) c.decode.ensures
