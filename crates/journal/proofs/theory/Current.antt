-- The current records of a log, by position and after an addition.
--     current-held                     they have the same names as all records
--     entry-held, entry-latest         each has its name, and is what its name reads as
--     names_apart, held-entry          no name is there twice, and every name that is held is there
--     entry-reply, entry-output        an entry is asked for as its name is read, once there are enough
--     keep_append, keep-comm           tests on a list
--     current-snoc, around-snoc        one record more
--     finished-current, finished-around, unfinished-current, unfinished-around      one addition
use Rattle.std.specs.Prelude.{◌≡◌, Bool, ◌&&◌, ◌||◌, ℕ, zero, suc, ◌+◌, ◌<◌, ltb, length, get_or, ℤ}
use Rattle.std.proofs.Math.Path.{refl, ap, ap₂}
use Rattle.std.proofs.Common.{sym, ◌∙◌, true≢false, le_of_suc-le-suc, not-suc-le-zero, arith, eqb-true, eq-eqb, ne_eqb, le-ltb}
use Rattle.std.proofs.Math.Bool.{true, false, not, cond}
use mathlib.Core.List.{List, [], ◌∷◌, ◌++◌}
use Rattle.std.proofs.lemmas.Bool.{eqb-false}
use Rattle.std.proofs.Math.Dec.{eqb}
use Rattle.std.proofs.Math.IntN.{pos}
use Rattle.plane.specs.Reply.{answered, row, first_row}
use Rattle.plane.specs.Floor.{corners}
use Rattle.plane.specs.Output.{no_room}
use Rattle.plane.specs.Question.{reply, output}
use Rattle.journal.specs.Format.{records, recorded, name, floor, content}
use Rattle.journal.specs.Reading.{damaged, bad_place, held, nothing, latest, ask_read}
use Rattle.journal.specs.Current.{current, keep, is_other, is_around, around, ask_entry, with_name}
use Rattle.journal.specs.Adding.{added}
use Rattle.journal.specs.Facts.{Holds}
use Rattle.journal.specs.History.{is_finished}
use Rattle.journal.proofs.theory.Read.{recorded-name, recorded-floor}
use Rattle.journal.proofs.theory.Reading.{held-snoc}
use Rattle.journal.proofs.theory.Added.{finished-accepted, finished-seen, unfinished-seen}

-- ---- the names

-- a name that a later record has
own_held : (r : List ℕ) (rs : List (List ℕ)) (n : ℕ) → held (name r) rs ≡ true → (eqb (name r) n || held n rs) ≡ held n rs
own_held r rs n h = go (eqb (name r) n) refl
  where
    go : (t : Bool) → eqb (name r) n ≡ t → (t || held n rs) ≡ held n rs
    go true e = sym h ∙ ap (λ (m : ℕ). held m rs) (eqb-true (name r) n e)
    go false e = refl

pub current-held : (n : ℕ) (rs : List (List ℕ)) → held n (current rs) ≡ held n rs
current-held n [] = refl
current-held n (r ∷ rs) = go (held (name r) rs) refl (current-held n rs)
  where
    go : (t : Bool) → held (name r) rs ≡ t → held n (current rs) ≡ held n rs
        → held n (cond t (current rs) (r ∷ current rs)) ≡ (eqb (name r) n || held n rs)
    go true h ih = ih ∙ sym (own_held r rs n h)
    go false h ih = ap (λ (t : Bool). eqb (name r) n || t) ih

-- the record at a position has its name
named-at : (ss : List (List ℕ)) (k : ℕ) → k < length ss → held (name (get_or ss k [])) ss ≡ true
named-at [] k h = absurd (not-suc-le-zero h)
named-at (s ∷ ss) zero h = ap (λ (t : Bool). t || held (name s) ss) (eq-eqb (name s) (name s) refl)
named-at (s ∷ ss) (suc k) h =
    let n = name (get_or ss k []) in
    later (eqb (name s) n) (held n ss) (named-at ss k (le_of_suc-le-suc h))
  where
    later : (a b : Bool) → b ≡ true → (a || b) ≡ true
    later true b e = refl
    later false b e = e

abbrev entry : List (List ℕ) → ℕ → List ℕ
entry rs k = get_or (current rs) k []

pub entry-held : (rs : List (List ℕ)) (k : ℕ) → k < length (current rs) → held (name (entry rs k)) rs ≡ true
entry-held rs k h = sym (current-held (name (entry rs k)) rs) ∙ named-at (current rs) k h

-- ---- what its name reads as

module _ (r : List ℕ) (rs : List (List ℕ)) where
  own-latest : held (name r) rs ≡ false → latest (name r) (r ∷ rs) ≡ content r
  own-latest h =
      ap₂ (λ (t e : Bool). cond t (latest (name r) rs) (cond e (content r) nothing)) h (eq-eqb (name r) (name r) refl)

  later-latest : (n : ℕ) → held n rs ≡ true → latest n (r ∷ rs) ≡ latest n rs
  later-latest n h = ap (λ (t : Bool). cond t (latest n rs) (cond (eqb (name r) n) (content r) nothing)) h

pub entry-latest : (rs : List (List ℕ)) (k : ℕ) → k < length (current rs) → latest (name (entry rs k)) rs ≡ content (entry rs k)
entry-latest [] k h = absurd (not-suc-le-zero h)
entry-latest (r ∷ rs) k h = go (held (name r) rs) refl k h (entry-latest rs)
  where
    at : Bool → ℕ → List ℕ
    at t i = get_or (cond t (current rs) (r ∷ current rs)) i []

    go : (t : Bool) → held (name r) rs ≡ t → (i : ℕ) → i < length (cond t (current rs) (r ∷ current rs))
        → ((j : ℕ) → j < length (current rs) → latest (name (entry rs j)) rs ≡ content (entry rs j))
        → latest (name (at t i)) (r ∷ rs) ≡ content (at t i)
    go true e i l ih = later-latest r rs (name (entry rs i)) (entry-held rs i l) ∙ ih i l
    go false e zero l ih = own-latest r rs e
    go false e (suc i) l ih =
        let m = le_of_suc-le-suc l in
        later-latest r rs (name (entry rs i)) (entry-held rs i m) ∙ ih i m

-- ---- once

pub names_apart : (rs : List (List ℕ)) (i j : ℕ) → i < length (current rs) → j < length (current rs)
    → name (entry rs i) ≡ name (entry rs j) → i ≡ j
names_apart [] i j h l same = absurd (not-suc-le-zero h)
names_apart (r ∷ rs) i j h l same = go (held (name r) rs) refl i j h l same (names_apart rs)
  where
    at : Bool → ℕ → List ℕ
    at t i = get_or (cond t (current rs) (r ∷ current rs)) i []

    other : held (name r) rs ≡ false → (j : ℕ) → j < length (current rs) → name r ≡ name (entry rs j) → ⊥
    other e j l s = true≢false (sym (entry-held rs j l) ∙ ap (λ (n : ℕ). held n rs) (sym s) ∙ e)

    go : (t : Bool) → held (name r) rs ≡ t → (i j : ℕ) → i < length (cond t (current rs) (r ∷ current rs))
        → j < length (cond t (current rs) (r ∷ current rs)) → name (at t i) ≡ name (at t j)
        → ((i j : ℕ) → i < length (current rs) → j < length (current rs) → name (entry rs i) ≡ name (entry rs j) → i ≡ j) → i ≡ j
    go true e i j h l s ih = ih i j h l s
    go false e zero zero h l s ih = refl
    go false e zero (suc j) h l s ih = absurd (other e j (le_of_suc-le-suc l) s)
    go false e (suc i) zero h l s ih = absurd (other e i (le_of_suc-le-suc h) (sym s))
    go false e (suc i) (suc j) h l s ih = ap suc (ih i j (le_of_suc-le-suc h) (le_of_suc-le-suc l) s)

named_some : (n : ℕ) (ss : List (List ℕ)) → held n ss ≡ true → Holds n ss
named_some n [] h = absurd (true≢false (sym h))
named_some n (s ∷ ss) h = go (eqb (name s) n) refl h (named_some n ss)
  where
    go : (t : Bool) → eqb (name s) n ≡ t → (t || held n ss) ≡ true → (held n ss ≡ true → Holds n ss) → Holds n (s ∷ ss)
    go true e g ih = record { position = 0; inside = omega arith; has = eqb-true (name s) n e }
    go false e g ih =
        let later = ih g in
        record { position = suc later.position; inside = omega (arith, later.inside); has = later.has }

pub held-entry : (n : ℕ) (rs : List (List ℕ)) → held n rs ≡ true → Holds n (current rs)
held-entry n rs h = named_some n (current rs) (current-held n rs ∙ h)

-- ---- an entry is what its name reads as

module _ (b : List ℕ) (k : ℕ) (out : List ℤ) (enough : k < length (current (records b))) where
  abbrev it : List ℕ
  it = entry (records b) k

  few : ltb (length (current (records b))) (1 + k) ≡ false
  few = le-ltb (length (current (records b))) (1 + k) (omega (arith, enough))

  pub entry-reply : reply (ask_entry b k out) ≡ with_name (name it) (reply (ask_read b (name it) out))
  unfolding reply
  entry-reply =
      rw (few, entry-latest (records b) k enough, entry-held (records b) k enough)
      (go (damaged (records b)) (no_room (corners (content it)) out))
    where
      go : (d n : Bool)
          → first_row (row 15 d (bad_place (records b) ∷ []) ∷ row 20 false [] ∷ row 8 n [] ∷ [])
          (answered (pos (length (corners (content it))) ∷ pos (name it) ∷ pos (floor it) ∷ []))
          ≡ with_name (name it) (first_row (row 15 d (bad_place (records b) ∷ []) ∷ row 19 false [] ∷ row 8 n [] ∷ [])
          (answered (pos (length (corners (content it))) ∷ pos (floor it) ∷ [])))
      go true n = refl
      go false true = refl
      go false false = refl

  pub entry-output : output (ask_entry b k out) ≡ output (ask_read b (name it) out)
  unfolding output
  entry-output = rw (few, entry-latest (records b) k enough, entry-held (records b) k enough) refl

-- ---- tests on a list

module _ {X : Type 0} where
  pub keep_append : (p : X → Bool) (xs ys : List X) → keep p (xs ++ ys) ≡ keep p xs ++ keep p ys
  keep_append p [] ys = refl
  keep_append p (x ∷ xs) ys = go (p x) (keep_append p xs ys)
    where
      go : (t : Bool) → keep p (xs ++ ys) ≡ keep p xs ++ keep p ys
          → cond t (x ∷ keep p (xs ++ ys)) (keep p (xs ++ ys)) ≡ cond t (x ∷ keep p xs) (keep p xs) ++ keep p ys
      go true ih = ap (λ (zs : List X). x ∷ zs) ih
      go false ih = ih

  pub keep-comm : (p q : X → Bool) (xs : List X) → keep p (keep q xs) ≡ keep q (keep p xs)
  keep-comm p q [] = refl
  keep-comm p q (x ∷ xs) = go (p x) (q x) refl refl (keep-comm p q xs)
    where
      go : (s t : Bool) → p x ≡ s → q x ≡ t → keep p (keep q xs) ≡ keep q (keep p xs)
          → keep p (cond t (x ∷ keep q xs) (keep q xs)) ≡ keep q (cond s (x ∷ keep p xs) (keep p xs))
      go true true e f ih =
          ap₂ (λ (u : Bool) (ys : List X). cond u (x ∷ ys) ys) e ih
          ∙ sym (ap (λ (u : Bool). cond u (x ∷ keep q (keep p xs)) (keep q (keep p xs))) f)
      go true false e f ih = ih ∙ sym (ap (λ (u : Bool). cond u (x ∷ keep q (keep p xs)) (keep q (keep p xs))) f)
      go false true e f ih = ap (λ (u : Bool). cond u (x ∷ keep p (keep q xs)) (keep p (keep q xs))) e ∙ ih
      go false false e f ih = ih

-- ---- one record more

module _ (s : List ℕ) where
  abbrev unlike : List (List ℕ) → List (List ℕ)
  unlike rs = keep (is_other (name s)) rs

  eqb_swap : (m n : ℕ) → eqb m n ≡ eqb n m
  eqb_swap m n = go (eqb m n) refl
    where
      go : (t : Bool) → eqb m n ≡ t → t ≡ eqb n m
      go true e = sym (eq-eqb n m (sym (eqb-true m n e)))
      go false e = sym (ne_eqb n m (λ f. eqb-false m n e (sym f)))

  pub current-snoc : (rs : List (List ℕ)) → current (rs ++ (s ∷ [])) ≡ unlike (current rs) ++ (s ∷ [])
  unfolding is_other
  current-snoc [] = refl
  current-snoc (r ∷ rs) =
      ap (λ (t : Bool). cond t more (r ∷ more))
      (held-snoc s (name r) rs ∙ ap (λ (t : Bool). held (name r) rs || t) (eqb_swap (name s) (name r)))
      ∙ go (held (name r) rs) (eqb (name r) (name s)) refl (current-snoc rs)
    where
      more : List (List ℕ)
      more = current (rs ++ (s ∷ []))

      other : (t : Bool) → eqb (name r) (name s) ≡ t
          → unlike (r ∷ current rs) ≡ cond (not t) (r ∷ unlike (current rs)) (unlike (current rs))
      other t e = ap (λ (u : Bool). cond (not u) (r ∷ unlike (current rs)) (unlike (current rs))) e

      go : (h e : Bool) → eqb (name r) (name s) ≡ e → more ≡ unlike (current rs) ++ (s ∷ [])
          → cond (h || e) more (r ∷ more) ≡ unlike (cond h (current rs) (r ∷ current rs)) ++ (s ∷ [])
      go true e f ih = ih
      go false true f ih = ih ∙ sym (ap (λ (xs : List (List ℕ)). xs ++ (s ∷ [])) (other true f))
      go false false f ih =
          ap (λ (xs : List (List ℕ)). r ∷ xs) ih ∙ sym (ap (λ (xs : List (List ℕ)). xs ++ (s ∷ [])) (other false f))

  pub around-snoc : (f but : ℕ) (rs : List (List ℕ))
      → around f but (rs ++ (s ∷ [])) ≡ unlike (around f but rs) ++ cond (is_around f but s) (s ∷ []) []
  unfolding around
  around-snoc f but rs =
      ap (keep (is_around f but)) (current-snoc rs) ∙ keep_append (is_around f but) (unlike (current rs)) (s ∷ [])
      ∙ ap (λ (xs : List (List ℕ)). xs ++ cond (is_around f but s) (s ∷ []) [])
      (keep-comm (is_around f but) (is_other (name s)) (current rs))

-- ---- one addition

module _ (b : List ℕ) (n f : ℕ) (l : List ℤ) (k : ℕ) where
  module _ (done : is_finished (added b n f l k).reply ≡ true) (name-fits : n < 65536) where
    named : name (recorded n f l) ≡ n
    named = recorded-name n f l (finished-accepted b n f l k done).valid name-fits

    pub finished-current : current (records (added b n f l k).log) ≡ keep (is_other n) (current (records b)) ++ (recorded n f l ∷ [])
    finished-current =
        ap current (finished-seen b n f l k done) ∙ current-snoc (recorded n f l) (records b)
        ∙ ap (λ (m : ℕ). keep (is_other m) (current (records b)) ++ (recorded n f l ∷ [])) named

    test : f < 65536 → (g but : ℕ) → is_around g but (recorded n f l) ≡ (eqb f g && not (eqb n but))
    unfolding is_around is_other
    test floor-fits g but =
        ap₂ (λ (h m : ℕ). eqb h g && not (eqb m but))
        (recorded-floor n f l (finished-accepted b n f l k done).valid floor-fits) named

    pub finished-around : f < 65536 → (g but : ℕ) → around g but (records (added b n f l k).log)
        ≡ keep (is_other n) (around g but (records b)) ++ cond (eqb f g && not (eqb n but)) (recorded n f l ∷ []) []
    finished-around floor-fits g but =
        ap (around g but) (finished-seen b n f l k done) ∙ around-snoc (recorded n f l) g but (records b)
        ∙ ap₂ (λ (m : ℕ) (t : Bool). keep (is_other m) (around g but (records b)) ++ cond t (recorded n f l ∷ []) []) named
        (test floor-fits g but)

  module _ (stopped : is_finished (added b n f l k).reply ≡ false) where
    pub unfinished-current : current (records (added b n f l k).log) ≡ current (records b)
    unfinished-current = ap current (unfinished-seen b n f l k stopped)

    pub unfinished-around : (g but : ℕ) → around g but (records (added b n f l k).log) ≡ around g but (records b)
    unfinished-around g but = ap (around g but) (unfinished-seen b n f l k stopped)
