-- An addition to a log, with a floor that is any number.
--     added-above, added-within     13 after the list, with nothing stored; else what the addition answers and stores
use Rattle.std.specs.Prelude.{◌≡◌, refl, true, false, List, ℕ, ltb, ℤ}
use Rattle.std.proofs.Common.{◌∙◌}
use Rattle.std.proofs.Math.Path.{ap}
use Rattle.plane.specs.Limits.{max_floor}
use Rattle.plane.specs.Reply.{Reply}
use Rattle.plane.specs.Refusal.{shape_rows}
use Rattle.journal.specs.Adding.{added}
use Rattle.wire.specs.Told.{crossed}
use Rattle.crossing.specs.LowFloor.{barred}
use Rattle.calls.specs.Calls.{added_low}

module _ (b : List ℕ) (n f : ℕ) (l : List ℤ) (k : ℕ) where
  -- these numbers, with this log
  abbrev Adds : List ℕ → List ℕ → Type 0
  Adds ns log = (ns ≡ crossed (added_low b n f l k).reply) × (log ≡ (added_low b n f l k).log)

  pub added-above : ltb max_floor f ≡ true → {ns : List ℕ} → ns ≡ crossed (barred (shape_rows 1 l)) → Adds ns b
  unfolding added_low
  added-above high e = rw high (e, refl)

  pub added-within : ltb max_floor f ≡ false → {x : Reply} {ns log : List ℕ} → ns ≡ crossed x
      → (x ≡ (added b n f l k).reply) × (log ≡ (added b n f l k).log) → Adds ns log
  unfolding added_low
  added-within low e h = rw low (e ∙ ap crossed h.0, h.1)
