-- Later additions, to a log and to the packed one.
--     last-shown      what a name comes to is the last of the additions that finished, or what it had
--     later-reads     where the same additions finish, what read alike before reads alike afterwards
use Rattle.std.specs.Prelude.{◌≡◌, refl, Bool, true, false, cond, ◌&&◌, List, [], ◌∷◌, ℕ, eqb, ℤ}
use Rattle.std.proofs.Common.{sym, ◌∙◌, ap, ap₂}
use Rattle.std.proofs.Math.Bool.{and-false, and-true}
use Rattle.plane.specs.Floor.{Floored, on}
use Rattle.plane.specs.Question.{written}
use Rattle.journal.specs.Format.{records}
use Rattle.journal.specs.Reading.{damaged, latest, ask_read, showing}
use Rattle.journal.specs.History.{Addition, step, after, is_finished, last_since}
use Rattle.journal.proofs.theory.History.{after_read}
use Rattle.packing.specs.Later.{Shown, shown, last_shown}

pub last-shown : (found : Floored) (n : ℕ) (hs : List Addition) (b : List ℕ) → last_since found n hs b ≡ last_shown found n (shown hs b)
last-shown found n [] b = refl
last-shown found n (h ∷ hs) b = go (is_finished (step h b).reply) (λ (x : Floored). last-shown x n hs (step h b).log)
  where
    shape : Floored
    shape = on h.list h.floor

    later : List Shown
    later = shown hs (step h b).log

    go : (t : Bool) → ((x : Floored) → last_since x n hs (step h b).log ≡ last_shown x n later)
        → last_since (cond (eqb h.name n && t) shape found) n hs (step h b).log
        ≡ last_shown found n (cond t (record { name = h.name; shape = shape } ∷ later) later)
    go true ih =
        ap (λ (s : Bool). last_since (cond s shape found) n hs (step h b).log) (and-true (eqb h.name n))
        ∙ ih (cond (eqb h.name n) shape found)
    go false ih =
        ap (λ (s : Bool). last_since (cond s shape found) n hs (step h b).log) (and-false (eqb h.name n)) ∙ ih found

module _ (b c : List ℕ) (sound : damaged (records b) ≡ false) (sound-too : damaged (records c) ≡ false) (hs gs : List Addition) where
  pub later-reads : shown hs b ≡ shown gs c → (n : ℕ) (out : List ℤ) → latest n (records b) ≡ latest n (records c)
      → written (ask_read (after hs b) n out) ≡ written (ask_read (after gs c) n out)
  later-reads same n out e =
      after_read hs b sound n out
      ∙ ap (λ (x : Floored). written (showing x out))
      (last-shown (latest n (records b)) n hs b ∙ ap₂ (λ (x : Floored) (xs : List Shown). last_shown x n xs) e same
      ∙ sym (last-shown (latest n (records c)) n gs c))
      ∙ sym (after_read gs c sound-too n out)
