-- `log_pack` meets its contract: a record is bad, or the log is packed.
use Rattle.std.proofs.Common.{sym}
use Rattle.journal.proofs.theory.Survey.{surveyed-ends}
use Rattle.admission.specs.theory.Judged.{handed-on}
use Rattle.log_questions.specs.theory.Packing.{pack-damaged}
use Rattle.log_questions.proofs.books.log_pack.Goals as goal

pub returns-in_err-survey : goal.returns-in_err-survey
returns-in_err-survey c =
    rw (handed-on _ _ c.from_residual.ensures.1) (pack-damaged _ _ _ _ _ (sym c.in_err-survey.ensures))

pub pack_sound-requires : goal.pack_sound-requires
pack_sound-requires c = (surveyed-ends _ _ (sym c.in_ok-survey.ensures)).0
