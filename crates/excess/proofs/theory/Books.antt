-- A log in which a name is recorded again.
--     other_name       any other name has what it had
--     same_name        the name has the new shape
--     unfinished-name  after an addition that was cut or refused, every name has what it had
use Rattle.std.specs.Prelude.{◌≡◌, Bool, true, false, cond, List, ℕ, ◌<◌, ℤ}
use Rattle.std.proofs.Common.{sym, ◌∙◌, ap, ap₂, eq-eqb, ne_eqb}
use Rattle.plane.specs.Floor.{on}
use Rattle.journal.specs.Format.{recorded, records, content}
use Rattle.journal.specs.Reading.{latest}
use Rattle.journal.specs.Adding.{added}
use Rattle.journal.specs.History.{is_finished}
use Rattle.journal.proofs.theory.Read.{recorded-name, recorded-floor, recorded-list}
use Rattle.journal.proofs.theory.Added.{finished-accepted, finished-latest, unfinished-seen}

module _ (b : List ℕ) (n f : ℕ) (l : List ℤ) (k : ℕ) (done : is_finished (added b n f l k).reply ≡ true) (name-fits : n < 65536) where
  pub other_name : (m : ℕ) → (m ≡ n → ⊥) → latest m (records (added b n f l k).log) ≡ latest m (records b)
  other_name m other = finished-latest b n f l k done m
      ∙ ap (λ (t : Bool). cond t (content (recorded n f l)) (latest m (records b)))
      (ne_eqb _ m (λ e. other (sym e ∙ recorded-name n f l (finished-accepted b n f l k done).valid name-fits)))

  pub same_name : f < 65536 → latest n (records (added b n f l k).log) ≡ on l f
  same_name floor-fits =
      let valid = (finished-accepted b n f l k done).valid in
      finished-latest b n f l k done n
      ∙ ap (λ (t : Bool). cond t (content (recorded n f l)) (latest n (records b))) (eq-eqb _ n (recorded-name n f l valid name-fits))
      ∙ ap₂ on (recorded-list n f l valid) (recorded-floor n f l valid floor-fits)

pub unfinished-name : (b : List ℕ) (n f : ℕ) (l : List ℤ) (k : ℕ) → is_finished (added b n f l k).reply ≡ false
    → (m : ℕ) → latest m (records (added b n f l k).log) ≡ latest m (records b)
unfinished-name b n f l k h m = ap (latest m) (unfinished-seen b n f l k h)
