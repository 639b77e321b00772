-- A walk over the records of a log, from one to the next.
--     Goes b i r c j    at place i of the log b a walk tells r, the place of a record or nothing, and is then at place j of the log c:
--                       the record is the one where it is, and it goes on to the next; it stays where no whole record is
--     Steps s r t       the same of the walk s, which is then t
use Rattle.std.specs.Prelude.{◌≡◌, true, false, Option, None, Some, List, ℕ, drop}
use Rattle.journal.specs.Format.{whole}
use Rattle.journal.specs.Survey.{next_at}
use Rattle.journal.specs.declared.places.Places.{Places}

abbrev pub Goes : List ℕ → ℕ → Option ℕ → List ℕ → ℕ → Type 0
Goes b i None c j = (whole (drop i b) ≡ false) × (c ≡ b) × (j ≡ i)
Goes b i (Some p) c j = (whole (drop i b) ≡ true) × (p ≡ i) × (c ≡ b) × (j ≡ next_at b p)

abbrev pub Steps : Places → Option ℕ → Places → Type 0
Steps s r t = Goes s.log.now s.at r t.log.now t.at
