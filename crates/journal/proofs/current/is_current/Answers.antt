-- `is_current` meets its contract: the name that is looked for is the record's, and the place is the next.
use mathlib.Core.Path.{◌≡◌, sym, ◌∙◌, ap, ap₂, subst}
use mathlib.Core.Bool.{not}
use Prim.Native.Nat.{ℕ}
use native.Mathlib.Omega.{arith}
use lib.ListN.{drop}
use Rattle.journal.specs.Format.{records, name}
use Rattle.journal.specs.Reading.{held}
use Rattle.journal.specs.Survey.{record_at, Reached}
use Rattle.journal.proofs.theory.Survey.{name-at, next-inside}
use Rattle.journal.proofs.theory.Stepping.{legible-least, name-here, sound-next}
use Rattle.journal.proofs.current.is_current.Goals as goal
use Rattle.journal.proofs.current.is_current.Goals.{After-pair_at}

name-read : (c : After-pair_at) → let args = c.args in
    c.pair_at.result ≡ name (record_at args.log.now args.p)
name-read c = c.pair_at.ensures.0 ∙ sym (name-at _ _) ∙ sym (name-here c.requires)

pub next_at-requires : goal.next_at-requires
next_at-requires c = c.requires.here

pub overflow_add-p : goal.overflow_add-p
overflow_add-p c =
    omega (arith, next-inside _ c.args.p c.requires.here, legible-least c.requires)

pub pair_at-requires : goal.pair_at-requires
pair_at-requires c =
    omega (arith, next-inside _ c.args.p c.requires.here, legible-least c.requires)

pub is_held-requires : goal.is_held-requires
is_held-requires c =
    subst (Reached _) (sym c.next_at.ensures) (sound-next c.requires)

pub returns : goal.returns
returns c =
    ap not (c.is_held.ensures
    ∙ ap₂ (λ (q n : ℕ). held n (records (drop q c.args.log.now))) c.next_at.ensures
    (name-read (goal.at.returns c).After-pair_at))
