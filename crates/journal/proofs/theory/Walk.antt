-- A loop over the records of a log, `for p in places::all(log) { .. }`: what holds of the place where it is.
--     On b I s      the walk s is over the log b, and I holds of its place
--     on-start, on-here, on-next, on-end    the loop begins; a record is here; it goes on; it ends
use Rattle.std.specs.Prelude.{◌≡◌, Bool, true, false, None, Some, List, ℕ, drop}
use Rattle.std.proofs.Common.{sym, ◌∙◌, ap, subst}
use Rattle.journal.specs.Format.{whole}
use Rattle.journal.specs.Survey.{next_at}
use Rattle.journal.specs.Places.{Goes}
use Rattle.journal.specs.declared.places.Places.{Places}

pub record On (b : List ℕ) (I : ℕ → Type 0) (s : Places) : Type 0 where
  pub over : s.log.now ≡ b
  pub holds : I s.at

pub on-start : {b : List ℕ} {p : ℕ} {I : ℕ → Type 0} {s w : Places} → s ≡ w → (w.log.now ≡ b) × (w.at ≡ p) → I p → On b I s
on-start {I} same e h = record {
  over = ap (λ (w : Places). w.log.now) same ∙ e.0;
  holds = subst I (sym (ap (λ (w : Places). w.at) same ∙ e.1)) h;
}

module _ {b : List ℕ} {I : ℕ → Type 0} {s : Places} (o : On b I s) where
  whole-here : {x : Bool} → whole (drop s.at s.log.now) ≡ x → whole (drop s.at b) ≡ x
  whole-here w = ap (λ l. whole (drop s.at l)) (sym o.over) ∙ w

  module _ {p : ℕ} where
    pub on-here : {l : List ℕ} {i : ℕ} → Goes s.log.now s.at (Some p) l i → (whole (drop p b) ≡ true) × I p
    on-here g = (ap (λ i. whole (drop i b)) g.1 ∙ whole-here g.0, subst I (sym g.1) o.holds)

    pub on-next : {t : Places} (J : ℕ → Type 0) → Goes s.log.now s.at (Some p) t.log.now t.at → J (next_at b p) → On b J t
    on-next J g h = record {
      over = g.2 ∙ o.over;
      holds = subst J (ap (λ l. next_at l p) (sym o.over) ∙ sym g.3) h;
    }

  pub on-end : {l : List ℕ} {i : ℕ} → Goes s.log.now s.at None l i → (whole (drop s.at b) ≡ false) × I s.at
  on-end g = (whole-here g.0, o.holds)
