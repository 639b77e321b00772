-- Histories: a log in which no record is bad still has none after any additions, cut or not, and each name's latest shape is the last that
-- finished, or the one from before.
--     after-sound, after_read    from a log with no bad record, of either kind
--     fresh-sound, fresh-read    a new log is one, and holds nothing
--     written-sound              a log of recorded shapes is one, whatever is torn after them
use Rattle.std.specs.Prelude.{◌≡◌, refl, Bool, true, false, cond, ◌&&◌, ◌||◌, List, [], ◌∷◌, ℕ, eqb, ℤ}
use Rattle.std.proofs.Common.{sym, ◌∙◌, ap, ap₂, ⊎_elim}
use Rattle.std.proofs.Math.Bool.{and-false, and-true}
use Rattle.plane.specs.Floor.{Floored, on}
use Rattle.plane.specs.Question.{written}
use Rattle.journal.specs.Format.{records, bad}
use Rattle.journal.specs.Reading.{damaged, latest, ask_read, showing}
use Rattle.journal.specs.Facts.{Recorded, AllRecorded}
use Rattle.journal.specs.History.{Addition, fresh, step, after, is_finished, finishes, last_since, last_finished}
use Rattle.journal.proofs.theory.Records.{records-none}
use Rattle.journal.proofs.theory.Read.{recorded-name, recorded-content, recorded-good, plain-good}
use Rattle.journal.proofs.theory.Reading.{read-sound}
use Rattle.journal.proofs.theory.Stores.{zeros-torn}
use Rattle.journal.proofs.theory.Added.{finished-accepted, finished-sound, finished-latest, unfinished-seen}

module _ (h : Addition) (b : List ℕ) where
  next-sound : damaged (records b) ≡ false → damaged (records (step h b).log) ≡ false
  next-sound d = go (is_finished (step h b).reply) refl
    where
      go : (t : Bool) → is_finished (step h b).reply ≡ t → damaged (records (step h b).log) ≡ false
      go true e = finished-sound b h.name h.floor h.list h.allowed e
      go false e = ap damaged (unfinished-seen b h.name h.floor h.list h.allowed e) ∙ d

  next-latest : (n : ℕ) → latest n (records (step h b).log) ≡ cond (finishes h b n) (on h.list h.floor) (latest n (records b))
  next-latest n = go (is_finished (step h b).reply) refl
    where
      choice : Bool → Floored
      choice t = cond t (on h.list h.floor) (latest n (records b))

      go : (t : Bool) → is_finished (step h b).reply ≡ t → latest n (records (step h b).log) ≡ choice (finishes h b n)
      go true e =
          let valid = (finished-accepted b h.name h.floor h.list h.allowed e).valid in
          finished-latest b h.name h.floor h.list h.allowed e n
          ∙ ap₂ (λ (m : ℕ) (x : Floored). cond (eqb m n) x (latest n (records b)))
          (recorded-name h.name h.floor h.list valid h.name-fits)
          (recorded-content h.name h.floor h.list valid h.floor-fits)
          ∙ ap choice (sym (and-true (eqb h.name n)) ∙ ap (λ (t : Bool). eqb h.name n && t) (sym e))
      go false e =
          ap (latest n) (unfinished-seen b h.name h.floor h.list h.allowed e)
          ∙ ap choice (sym (and-false (eqb h.name n)) ∙ ap (λ (t : Bool). eqb h.name n && t) (sym e))

pub after-sound : (hs : List Addition) (b : List ℕ) → damaged (records b) ≡ false → damaged (records (after hs b)) ≡ false
after-sound [] b d = d
after-sound (h ∷ hs) b d = after-sound hs (step h b).log (next-sound h b d)

after-latest : (n : ℕ) (hs : List Addition) (b : List ℕ) → latest n (records (after hs b)) ≡ last_since (latest n (records b)) n hs b
after-latest n [] b = refl
after-latest n (h ∷ hs) b = after-latest n hs (step h b).log ∙ ap (λ (x : Floored). last_since x n hs (step h b).log) (next-latest h b n)

pub after_read : (hs : List Addition) (b : List ℕ) → damaged (records b) ≡ false → (n : ℕ) (out : List ℤ)
    → written (ask_read (after hs b) n out) ≡ written (showing (last_since (latest n (records b)) n hs b) out)
after_read hs b d n out =
    read-sound (after hs b) n out (after-sound hs b d) ∙ ap (λ (x : Floored). written (showing x out)) (after-latest n hs b)

-- ---- a new log

pub fresh-sound : (m : ℕ) → damaged (records (fresh m)) ≡ false
fresh-sound m = ap damaged (records-none (fresh m) (zeros-torn m))

pub fresh-read : (hs : List Addition) (m n : ℕ) (out : List ℤ)
    → written (ask_read (after hs (fresh m)) n out) ≡ written (showing (last_finished n hs (fresh m)) out)
fresh-read hs m n out =
    after_read hs (fresh m) (fresh-sound m) n out
    ∙ ap (λ (rs : List (List ℕ)). written (showing (last_since (latest n rs) n hs (fresh m)) out)) (records-none (fresh m) (zeros-torn m))

-- ---- a log that was written to

recorded-sound : (r : List ℕ) → Recorded r → bad r ≡ false
recorded-sound r w =
    ⊎_elim (λ e. ap bad e ∙ plain-good w.name w.numbers w.valid)
    (λ e. ap bad e ∙ recorded-good w.name w.floor w.numbers w.valid) w.is

pub written-sound : (rs : List (List ℕ)) → AllRecorded rs → damaged rs ≡ false
written-sound [] ws = refl
written-sound (r ∷ rs) ws = ap₂ (λ (a c : Bool). a || c) (recorded-sound r ws.0) (written-sound rs ws.1)
