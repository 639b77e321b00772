-- What a refused reading says. The theorem is proved in the theory; here it is only cited.
use Rattle.std.specs.Prelude.{◌≡◌}
use Rattle.std.proofs.Common.{sym, ◌∙◌, ap}
use Rattle.answers.specs.declared.Unread.{Unread}
use Rattle.answers.specs.Answer.{of_unread}
use Rattle.tablet_questions.specs.theory.Readings.{known, unread-back}

-- "a refusal says which of them it was": refusals of readings with the same number and part are the same
pub unread-known : (r s : Unread) → of_unread r ≡ of_unread s → r ≡ s
unread-known r s e = unread-back r ∙ ap known e ∙ sym (unread-back s)
