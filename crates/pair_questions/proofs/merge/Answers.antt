-- `merge` meets its contract: a list is refused, or the inner function answers, with one floor for both.
use mathlib.Core.Path.{◌≡◌, subst}
use Prim.Native.Nat.{ℕ}
use Rattle.plane.specs.Floor.{Floored, on}
use Rattle.plane.specs.Question.{reply, output, ask_merge}
use Rattle.admission.specs.theory.Judged.{held, refusal-of, handed-on}
use Rattle.admission.specs.theory.Door.{shapes-refused}
use Rattle.answers.specs.Answer.{of_answer}
use Rattle.pair_questions.proofs.merge.Goals as goal
use Rattle.pair_questions.proofs.merge.Goals.{Start}

-- the two shapes
abbrev one : Start → Floored
one c = on c.args.a.now c.args.f

abbrev other : Start → Floored
other c = on c.args.b.now c.args.g

pub returns-in_err-admit_pair : goal.returns-in_err-admit_pair
returns-in_err-admit_pair c =
    rw (handed-on _ _ c.from_residual.ensures.1)
    (shapes-refused (ask_merge (one (goal.at.returns-in_err-admit_pair c).Start) (other
    (goal.at.returns-in_err-admit_pair c).Start) c.args.out.now)
    (refusal-of c.in_err-admit_pair.ensures))

pub merge-requires : goal.merge-requires
merge-requires c = let good = held c.in_ok-admit_pair.ensures in (good.first-valid, good.second-valid)

pub returns : goal.returns
returns c =
    let args = c.args in
    subst (λ (g : ℕ).
    (of_answer c.merge.result ≡ reply (ask_merge (on args.a.now args.f) (on args.b.now g) args.out.now))
    × (c.merge.new.out ≡ output (ask_merge (on args.a.now args.f) (on args.b.now g) args.out.now)))
    (held c.in_ok-admit_pair.ensures).one-floor c.merge.ensures
