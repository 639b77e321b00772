-- A pass over the records from a place on that looks for a name.
--     Ahead n b from p      the name is held from `from` on exactly if it is from p on
--     ahead-start, ahead-next, ahead-found, ahead-end     the moves of the pass
use Rattle.std.specs.Prelude.{◌≡◌, refl, Bool, true, false, ◌||◌, List, ℕ, eqb, drop}
use Rattle.std.proofs.Common.{sym, ◌∙◌, ap, eq-eqb, ne_eqb}
use Rattle.journal.specs.Format.{whole, records, name}
use Rattle.journal.specs.Reading.{held}
use Rattle.journal.specs.Survey.{next_at, Reached}
use Rattle.journal.proofs.theory.Stepping.{records-step, records-end, name-here, reached-sound, reached-next}

pub record Ahead (n : ℕ) (b : List ℕ) (from p : ℕ) : Type 0 where
  pub reached : Reached b p
  pub still : held n (records (drop from b)) ≡ held n (records (drop p b))

pub ahead-start : (n : ℕ) (b : List ℕ) (p : ℕ) → Reached b p → Ahead n b p p
ahead-start n b p r = record { reached = r; still = refl }

module _ {n : ℕ} {b : List ℕ} {from p : ℕ} (f : Ahead n b from p) where
  module _ (w : whole (drop p b) ≡ true) where
    step : (t : Bool) → eqb (name (drop p b)) n ≡ t → held n (records (drop from b)) ≡ (t || held n (records (drop (next_at b p) b)))
    step t e =
        f.still ∙ ap (held n) (records-step b p w)
        ∙ ap (λ (x : Bool). x || held n (records (drop (next_at b p) b)))
        (ap (λ (k : ℕ). eqb k n) (name-here (reached-sound f.reached w)) ∙ e)

    pub ahead-found : name (drop p b) ≡ n → true ≡ held n (records (drop from b))
    ahead-found e = sym (step true (eq-eqb (name (drop p b)) n e))

    pub ahead-next : (name (drop p b) ≡ n → ⊥) → Ahead n b from (next_at b p)
    ahead-next d = record { reached = reached-next f.reached w; still = step false (ne_eqb (name (drop p b)) n d) }

  pub ahead-end : whole (drop p b) ≡ false → false ≡ held n (records (drop from b))
  ahead-end w = sym (f.still ∙ ap (held n) (records-end b p w))
