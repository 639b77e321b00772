-- The whole records of a log: a log is its records, joined, and a torn rest. With these laws no count of steps is used again.
--     whole→facts, facts→whole  what the test `whole t` says
--     Entry r, Entries rs       r is whole, and nothing more; all of rs are
--     records-of                entries, joined, with a torn rest after them, have these entries as their records
--     records-entries, split, end-torn, front-joined, end-le        every log is of this kind, its rest being the bytes from `end b` on
--     records-front, records-none, end-front, end_none       how records and end compute, as a loop goes along a log
use Rattle.std.specs.Prelude.{◌≡◌, Bool, true, false, not, cond, ◌&&◌, ℕ, zero, suc, ◌+◌, ◌*◌, ◌≤◌, eqb, leb, get_or, take, drop}
use Rattle.std.proofs.Math.Path.{refl, ap}
use Rattle.std.proofs.Common.{sym, ◌∙◌, ap₂, subst, le_of_suc-le-suc, not-suc-le-zero, arith, leb-true, le-leb, eqb-true, eq-eqb, ne_eqb}
use Rattle.std.proofs.Common.{length-drop, take-append-drop, length-take-le, get_or-take, take_at, drop_at}
use Rattle.std.proofs.Math.Bool.{and-eq-true_iff}
use mathlib.Core.List.{List, [], ◌∷◌, ◌++◌, append_assoc}
use Rattle.std.proofs.lemmas.Bool.{eqb-false, not-true}
use Rattle.std.proofs.Math.ListN.{length, length-append, get_or-append}
use Rattle.endian.specs.Bytes.{pair_at}
use Rattle.endian.specs.theory.Bytes.{pair_at-take}
use Rattle.journal.specs.Format.{last_byte, size, whole, walked, records}
use Rattle.journal.specs.Adding.{joined, end}
use Rattle.journal.specs.Facts.{Whole}

-- ---- one record

pub whole→facts : (t : List ℕ) → whole t ≡ true → Whole t
unfolding whole
whole→facts t h =
    let parts = (and-eq-true_iff (leb 2 (length t) && not (eqb (size t) 0)) _).0 h in
    let start = (and-eq-true_iff (leb 2 (length t)) _).0 parts.0 in
    let last = (and-eq-true_iff (leb (2 + size t) (length t)) _).0 parts.1 in
    let other = eqb-false (size t) 0 (not-true _ start.1) in record {
      two = leb-true 2 (length t) start.0;
      some = omega arith;
      fits = leb-true (2 + size t) (length t) last.0;
      ends = eqb-true (get_or t (1 + size t) 0) last_byte last.1;
    }

pub facts→whole : (t : List ℕ) → Whole t → whole t ≡ true
unfolding whole
facts→whole t w =
    ap₂ (λ (a b : Bool). a && b)
    (ap₂ (λ (a b : Bool). a && not b) (le-leb 2 (length t) w.two) (ne_eqb (size t) 0 (λ e. omega (arith, w.some))))
    (ap₂ (λ (a b : Bool). a && b) (le-leb (2 + size t) (length t) w.fits) (eq-eqb (get_or t (1 + size t) 0) last_byte w.ends))

pub record Entry (r : List ℕ) : Type 0 where
  pub is_whole : Whole r
  pub exact : length r ≡ 2 + size r

abbrev pub Entries : List (List ℕ) → Type 0
Entries [] = Unit {0}
Entries (r ∷ rs) = Entry r × Entries rs

-- a record's length is in its first two bytes
pub size-append : (r t : List ℕ) → 2 ≤ length r → size (r ++ t) ≡ size r
unfolding size pair_at
size-append r t h =
    ap₂ (λ (a b : ℕ). a + 256 * b) (get_or-append r t 0 0 (omega arith)) (get_or-append r t 0 1 (omega arith))

pub size-take : (t : List ℕ) (n : ℕ) → 2 ≤ n → size (take n t) ≡ size t
unfolding size
size-take t n h = pair_at-take t n 0 h

-- what comes after a whole record does not matter
whole_append : (r t : List ℕ) → Whole r → Whole (r ++ t)
whole_append r t w = let same = size-append r t w.two in record {
  two = omega (arith, length-append r t, w.two);
  some = omega (arith, w.some, same);
  fits = omega (arith, length-append r t, w.fits, same);
  ends =
      ap (λ (n : ℕ). get_or (r ++ t) (1 + n) 0) same
      ∙ get_or-append r t 0 (1 + size r) (omega (arith, w.fits)) ∙ w.ends;
}

-- the record at the front
pub entry-front : (t : List ℕ) → Whole t → Entry (take (2 + size t) t)
entry-front t w =
    let same = size-take t (2 + size t) (omega arith) in
    let count = length-take-le (2 + size t) t w.fits in record {
      is_whole = record {
        two = omega arith;
        some = omega (arith, w.some);
        fits = omega arith;
        ends = ap (λ (n : ℕ). get_or (take (2 + size t) t) (1 + n) 0) same ∙ get_or-take (2 + size t) t (1 + size t) 0 (omega arith) ∙
            w.ends;
      };
      exact = omega arith;
    }

-- ---- all records

stop : (k : ℕ) (t : List ℕ) → whole t ≡ false → walked k t ≡ []
stop zero t e = refl
stop (suc k) t e = ap (λ (b : Bool). cond b (take (2 + size t) t ∷ walked k (drop (2 + size t) t)) []) e

step : (k : ℕ) (t : List ℕ) → whole t ≡ true → walked (suc k) t ≡ take (2 + size t) t ∷ walked k (drop (2 + size t) t)
step k t e = ap (λ (b : Bool). cond b (take (2 + size t) t ∷ walked k (drop (2 + size t) t)) []) e

step-entry : (k : ℕ) (r t : List ℕ) → Entry r → walked (suc k) (r ++ t) ≡ r ∷ walked k t
step-entry k r t e =
    let n : length r ≡ 2 + size (r ++ t) = omega (arith, e.exact, size-append r t e.is_whole.two) in
    step k (r ++ t) (facts→whole (r ++ t) (whole_append r t e.is_whole))
    ∙ ap₂ (λ (x s : List ℕ). x ∷ walked k s) (take_at r t (2 + size (r ++ t)) n) (drop_at r t (2 + size (r ++ t)) n)

walked-of : (k : ℕ) (rs : List (List ℕ)) (t : List ℕ) → Entries rs → whole t ≡ false → length rs ≤ k → walked k (joined rs ++ t) ≡ rs
walked-of k [] t es e h = stop k t e
walked-of zero (r ∷ rs) t es e h = absurd (not-suc-le-zero h)
walked-of (suc k) (r ∷ rs) t es e h =
    ap (walked (suc k)) (append_assoc r (joined rs) t)
    ∙ step-entry k r (joined rs ++ t) es.0 ∙ ap (λ (ss : List (List ℕ)). r ∷ ss) (walked-of k rs t es.1 e (le_of_suc-le-suc h))

entries-few : (rs : List (List ℕ)) → Entries rs → length rs ≤ length (joined rs)
entries-few [] es = omega arith
entries-few (r ∷ rs) es = omega (arith, entries-few rs es.1, length-append r (joined rs), es.0.exact)

pub records-of : (rs : List (List ℕ)) (t : List ℕ) → Entries rs → whole t ≡ false → records (joined rs ++ t) ≡ rs
unfolding records
records-of rs t es e =
    walked-of (length (joined rs ++ t)) rs t es e (omega (arith, entries-few rs es, length-append (joined rs) t))

-- these records, joined, and a torn rest
record Torn (rs : List (List ℕ)) (b : List ℕ) : Type 0 where
  rest : List ℕ
  entries : Entries rs
  is : b ≡ joined rs ++ rest
  torn : whole rest ≡ false

-- enough steps come to the torn rest
walked-torn : (k : ℕ) (t : List ℕ) → length t ≤ k → Torn (walked k t) t
walked-torn zero t h = record { rest = t; entries = tt; is = refl; torn = go (whole t) refl }
  where
    go : (b : Bool) → whole t ≡ b → b ≡ false
    go true e = absurd (omega (arith, (whole→facts t e).two))
    go false e = refl
walked-torn (suc k) t h = go (whole t) refl (walked-torn k (drop (2 + size t) t))
  where
    n : ℕ
    n = 2 + size t

    go : (b : Bool) → whole t ≡ b → (length (drop n t) ≤ k → Torn (walked k (drop n t)) (drop n t)) → Torn (walked (suc k) t) t
    go true e ih =
        let later = ih (omega (arith, length-drop n t)) in
        subst (λ (rs : List (List ℕ)). Torn rs t) (sym (step k t e)) (record {
          rest = later.rest;
          entries = (entry-front t (whole→facts t e), later.entries);
          is =
              sym (take-append-drop n t) ∙ ap (λ (s : List ℕ). take n t ++ s) later.is
              ∙ sym (append_assoc (take n t) (joined (walked k (drop n t))) later.rest);
          torn = later.torn;
        })
    go false e ih =
        subst (λ (rs : List (List ℕ)). Torn rs t) (sym (stop (suc k) t e)) (record { rest = t; entries = tt; is = refl; torn = e })

module _ (b : List ℕ) where
  at-end : Torn (records b) b
  unfolding records
  at-end = walked-torn (length b) b (omega arith)

  pub records-entries : Entries (records b)
  records-entries = at-end.entries

  pub joined_length : length (joined (records b)) ≡ end b
  unfolding end
  joined_length = refl

  rest-is : drop (end b) b ≡ at-end.rest
  rest-is = ap (drop (end b)) at-end.is ∙ drop_at (joined (records b)) at-end.rest (end b) joined_length

  pub end-torn : whole (drop (end b) b) ≡ false
  end-torn = ap whole rest-is ∙ at-end.torn

  pub split : b ≡ joined (records b) ++ drop (end b) b
  split = at-end.is ∙ ap (λ (t : List ℕ). joined (records b) ++ t) (sym rest-is)

  pub front-joined : take (end b) b ≡ joined (records b)
  front-joined = ap (take (end b)) split ∙ take_at (joined (records b)) (drop (end b) b) (end b) joined_length

  pub end-le : end b ≤ length b
  end-le = omega (arith, ap length split, length-append (joined (records b)) (drop (end b) b), joined_length)

-- ---- along a log

module _ (b : List ℕ) where
  pub records-none : whole b ≡ false → records b ≡ []
  unfolding records
  records-none e = stop (length b) b e

  pub records-front : whole b ≡ true → records b ≡ take (2 + size b) b ∷ records (drop (2 + size b) b)
  records-front e =
      let n = 2 + size b in
      let t = drop n b in
      ap records (sym (take-append-drop n b) ∙ ap (λ (s : List ℕ). take n b ++ s) (split t)
      ∙ sym (append_assoc (take n b) (joined (records t)) (drop (end t) t)))
      ∙ records-of (take n b ∷ records t) (drop (end t) t) (entry-front b (whole→facts b e), records-entries t) (end-torn t)

  pub end_none : whole b ≡ false → end b ≡ 0
  unfolding end
  end_none e = ap (λ (rs : List (List ℕ)). length (joined rs)) (records-none e)

  pub end-front : whole b ≡ true → end b ≡ (2 + size b) + end (drop (2 + size b) b)
  unfolding end
  end-front e =
      ap (λ (rs : List (List ℕ)). length (joined rs)) (records-front e)
      ∙ length-append (take (2 + size b) b) (joined (records (drop (2 + size b) b)))
      ∙ ap (λ (n : ℕ). n + end (drop (2 + size b) b)) (length-take-le (2 + size b) b (whole→facts b e).fits)
