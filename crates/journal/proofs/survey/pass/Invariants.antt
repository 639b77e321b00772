use Rattle.std.specs.Prelude.{◌≡◌, length}
use Rattle.journal.proofs.theory.Survey.{Along}
use Rattle.journal.proofs.theory.Walk.{On}
use Rattle.journal.proofs.survey.pass.Given as goal

abbrev pub invariant-loop-place : goal.invariant-loop-place
invariant-loop-place l =
    On l.log (λ p. Along l.log p × (l.end ≡ p)) l.place-iterator × (length l.buffer ≡ length l.initial.buffer)
