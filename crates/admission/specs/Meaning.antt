-- What a refusal says. The theorem is proved in the theory; here it is only cited.
use Rattle.std.specs.Prelude.{◌≡◌}
use Rattle.std.proofs.Common.{sym, ◌∙◌, ap}
use Rattle.admission.specs.declared.answer.Refusal.{Refusal}
use Rattle.admission.specs.Answer.{of_refusal}
use Rattle.admission.specs.theory.Known.{known, refusal-back}

-- "A refusal of 1 to 5 says which shape. Number 4 also gives the first edge, then the first corner": refusals with the same number and the
-- same values are the same, so that a promise about the reply is one about the refusal
pub refusal-known : (r s : Refusal) → of_refusal r ≡ of_refusal s → r ≡ s
refusal-known r s e = refusal-back r ∙ ap known e ∙ sym (refusal-back s)
