-- The stores of an addition, one after the other.
--     made-append, one_byte      some stores after others; one store more changes at most one byte
--     Shows rs b, Before P ss b  the log has these records; P of every log that a store of ss is made to, so of every state but the last
--     stores-keep                every state of an addition but the last shows the same records
--     stores-done, stores-seen   after all stores: the old records, the new one, and zeros
--     stores-few                 twice the log's bytes are enough
--     with_new b r t, cut-seen    the records after k stores: those of before, and the new one if k is enough
use Rattle.std.specs.Prelude.{◌≡◌, refl, Bool, true, false, cond, ℕ, zero, suc, ◌+◌, ◌*◌, ◌-◌, ◌≤◌, ◌<◌, eqb, leb, length, take, set}
use Rattle.std.proofs.Common.{sym, ◌∙◌, subst, suc-le-suc, le_of_suc-le-suc, not-suc-le-zero, suc-add, zero-add, leb-true, leb-false}
use Rattle.std.proofs.Common.{eqb-true, take_all}
use Rattle.std.proofs.Math.Path.{ap}
use mathlib.Core.List.{List, [], ◌∷◌, ◌++◌, append_assoc, append-nil}
use native.Mathlib.Omega.{arith}
use Rattle.std.proofs.Math.ListN.{drop, replicate, length-append, length-drop}
use Rattle.std.proofs.lemmas.List.{length-replicate, set_at}
use Rattle.std.proofs.Math.Seq.{append_snoc, set_out}
use Rattle.journal.specs.Format.{whole, records}
use Rattle.journal.specs.Adding.{Store, store, joined, end, clears, writes, stores, made}
use Rattle.journal.specs.Allowance.{cleared}
use Rattle.journal.proofs.theory.Records.{Entry, Entries, size-append, records-of, records-entries, joined_length, split}
use Rattle.journal.proofs.theory.Records.{end-torn, front-joined, end-le}
use Rattle.journal.proofs.theory.Parts.{part, part-torn, part-short}

-- ---- any stores

pub made-append : (ss ts : List Store) (b : List ℕ) → made (ss ++ ts) b ≡ made ts (made ss b)
made-append [] ts b = refl
made-append (s ∷ ss) ts b = made-append ss ts (set b s.place s.byte)

-- a store past the end changes nothing: no store left
pub one_byte : (ss : List Store) (b : List ℕ) (k : ℕ)
    → (p : ℕ) × (x : ℕ) × (made (take (suc k) ss) b ≡ set (made (take k ss) b) p x)
one_byte [] b zero = (length b, 0, sym (set_out b (length b) 0 (omega arith)))
one_byte [] b (suc k) = (length b, 0, sym (set_out b (length b) 0 (omega arith)))
one_byte (s ∷ ss) b zero = (s.place, s.byte, refl)
one_byte (s ∷ ss) b (suc k) = one_byte ss (set b s.place s.byte) k

-- a log has these records
abbrev pub Shows : List (List ℕ) → List ℕ → Type 0
Shows rs b = records b ≡ rs

abbrev pub Before : (List ℕ → Type 0) → List Store → List ℕ → Type 0
Before P [] b = Unit {0}
Before P (s ∷ ss) b = P b × Before P ss (set b s.place s.byte)

module _ (P : List ℕ → Type 0) where
  before-append : (ss ts : List Store) (b : List ℕ) → Before P ss b → Before P ts (made ss b) → Before P (ss ++ ts) b
  before-append [] ts b h k = k
  before-append (s ∷ ss) ts b h k = (h.0, before-append ss ts (set b s.place s.byte) h.1 k)

  before-take : (ss : List Store) (b : List ℕ) (k : ℕ) → Before P ss b → k < length ss → P (made (take k ss) b)
  before-take [] b k h l = absurd (not-suc-le-zero l)
  before-take (s ∷ ss) b zero h l = h.0
  before-take (s ∷ ss) b (suc k) h l = before-take ss (set b s.place s.byte) k h.1 (le_of_suc-le-suc l)

-- ---- tidying

clear-made : (f t : List ℕ) (x p : ℕ) → length f ≡ p → made (cleared p x) (f ++ x ∷ t) ≡ f ++ 0 ∷ t
clear-made f t x p e = go (eqb x 0) refl
  where
    go : (b : Bool) → eqb x 0 ≡ b → made (cond b [] (store p 0 ∷ [])) (f ++ x ∷ t) ≡ f ++ 0 ∷ t
    go true h = ap (λ (y : ℕ). f ++ y ∷ t) (eqb-true x 0 h)
    go false h = set_at f x t 0 p e

clear-before : (P : List ℕ → Type 0) (b : Bool) (s : Store) (c : List ℕ) → P c → Before P (cond b [] (s ∷ [])) c
clear-before P true s c h = tt
clear-before P false s c h = (h, tt)

clear-few : (b : Bool) (s : Store) → length (cond b [] (s ∷ [])) ≤ 1
clear-few true s = omega arith
clear-few false s = omega arith

-- a byte joins the front
longer : (f : List ℕ) (x p : ℕ) → length f ≡ p → length (f ++ (x ∷ [])) ≡ 1 + p
longer f x p e = omega (arith, length-append f (x ∷ []), e)

-- what the stores of t do after f and x, with x taken for a byte of t
shifted : (f t : List ℕ) (x p : ℕ) (u : List ℕ) → made (clears (1 + p) t) (f ++ (x ∷ []) ++ t) ≡ f ++ (x ∷ []) ++ u
    → made (clears (1 + p) t) (f ++ x ∷ t) ≡ f ++ x ∷ u
shifted f t x p u h = ap (made (clears (1 + p) t)) (sym (append_snoc f x t)) ∙ h ∙ append_snoc f x u

-- the bytes t, after f, become zeros
clears-made : (f t : List ℕ) (p : ℕ) → length f ≡ p → made (clears p t) (f ++ t) ≡ f ++ replicate (length t) 0
clears-made f [] p e = refl
clears-made f (x ∷ t) p e =
    made-append (clears (1 + p) t) (cleared p x) (f ++ x ∷ t)
    ∙ ap (made (cleared p x)) (shifted f t x p _ (clears-made (f ++ (x ∷ [])) t (1 + p) (longer f x p e)))
    ∙ clear-made f (replicate (length t) 0) x p e

-- while they do, what comes after f is a front of them
clears-before : (P : List ℕ → Type 0) (f t : List ℕ) (p : ℕ) → length f ≡ p → ((j : ℕ) → P (f ++ part j t))
    → Before P (clears p t) (f ++ t)
clears-before P f [] p e h = tt
clears-before P f (x ∷ t) p e h =
    let zeros = shifted f t x p _ (clears-made (f ++ (x ∷ [])) t (1 + p) (longer f x p e)) in
    before-append P (clears (1 + p) t) (cleared p x) (f ++ x ∷ t)
    (subst (Before P (clears (1 + p) t)) (append_snoc f x t)
    (clears-before P (f ++ (x ∷ [])) t (1 + p) (longer f x p e) (λ j. subst P (sym (append_snoc f x (part j t))) (h (suc j)))))
    (subst (Before P (cleared p x)) (sym zeros) (clear-before P (eqb x 0) (store p 0) (f ++ x ∷ replicate (length t) 0) (h 1)))

clears-few : (p : ℕ) (t : List ℕ) → length (clears p t) ≤ length t
clears-few p [] = omega arith
clears-few p (x ∷ t) =
    omega (arith, clears-few (1 + p) t, length-append (clears (1 + p) t) (cleared p x), clear-few (eqb x 0) (store p 0))

-- ---- writing

-- one byte, over zeros after f
put : (f : List ℕ) (n m x p : ℕ) → length f ≡ p → set (f ++ replicate (suc n + m) 0) p x ≡ (f ++ (x ∷ [])) ++ replicate (n + m) 0
put f n m x p e =
    ap (λ (k : ℕ). set (f ++ replicate k 0) p x) (suc-add n m) ∙ set_at f 0 (replicate (n + m) 0) x p e
    ∙ sym (append_snoc f x (replicate (n + m) 0))

-- the record r, over zeros after f
writes-made : (f r : List ℕ) (m p : ℕ) → length f ≡ p
    → made (writes p r) (f ++ replicate (length r + m) 0) ≡ f ++ (r ++ replicate m 0)
writes-made f [] m p e = ap (λ (k : ℕ). f ++ replicate k 0) (zero-add m)
writes-made f (x ∷ r) m p e =
    ap (made (writes (1 + p) r)) (put f (length r) m x p e)
    ∙ writes-made (f ++ (x ∷ [])) r m (1 + p) (longer f x p e) ∙ append_snoc f x (r ++ replicate m 0)

-- until the last byte is stored, what comes after f is a front of the record that misses a byte
writes-before : (P : List ℕ → Type 0) (f r : List ℕ) (m p : ℕ) → length f ≡ p
    → ((j : ℕ) → j < length r → P (f ++ part j (r ++ replicate m 0)))
    → Before P (writes p r) (f ++ replicate (length r + m) 0)
writes-before P f [] m p e h = tt
writes-before P f (x ∷ r) m p e h =
    let count : suc (length (r ++ replicate m 0)) ≡ suc (length r) + m =
    omega (arith, length-append r (replicate m 0), length-replicate {A = ℕ} m 0) in (
      subst (λ (k : ℕ). P (f ++ replicate k 0)) count (h 0 (omega arith)),
      subst (Before P (writes (1 + p) r)) (sym (put f (length r) m x p e))
          (writes-before P (f ++ (x ∷ [])) r m (1 + p) (longer f x p e)
          (λ j l. subst P (sym (append_snoc f x (part j (r ++ replicate m 0)))) (h (suc j) (suc-le-suc l)))),
    )

pub writes-length : (p : ℕ) (r : List ℕ) → length (writes p r) ≡ length r
writes-length p [] = refl
writes-length p (x ∷ r) = ap suc (writes-length (1 + p) r)

-- ---- an addition

joined_snoc : (rs : List (List ℕ)) (r : List ℕ) → joined (rs ++ (r ∷ [])) ≡ joined rs ++ r
joined_snoc [] r = append-nil r
joined_snoc (s ∷ rs) r = ap (λ (t : List ℕ). s ++ t) (joined_snoc rs r) ∙ sym (append_assoc s (joined rs) r)

entries-snoc : (rs : List (List ℕ)) (r : List ℕ) → Entries rs → Entry r → Entries (rs ++ (r ∷ []))
entries-snoc [] r es e = (e, tt)
entries-snoc (s ∷ rs) r es e = (es.0, entries-snoc rs r es.1 e)

pub zeros-torn : (m : ℕ) → whole (replicate m 0) ≡ false
zeros-torn m =
    ap (λ (k : ℕ). whole (replicate k 0)) (sym (length-replicate {A = ℕ} m 0)) ∙ part-short 0 (replicate m 0) (omega arith)

-- how many bytes are left after the new record
abbrev pub left : List ℕ → List ℕ → ℕ
left b r = length b - (end b + length r)

-- the log's records, and r after them if so told
abbrev pub with_new : List ℕ → List ℕ → Bool → List (List ℕ)
with_new b r t = cond t (records b ++ (r ∷ [])) (records b)

module _ (b r : List ℕ) (entry : Entry r) (room : length r ≤ length b - end b) where
  -- the log, tidied
  tidied : made (clears (end b) (drop (end b) b)) b ≡ joined (records b) ++ replicate (length r + left b r) 0
  tidied =
      let count : length (drop (end b) b) ≡ length r + left b r = omega (arith, length-drop (end b) b, end-le b) in
      ap (made (clears (end b) (drop (end b) b))) (split b)
      ∙ clears-made (joined (records b)) (drop (end b) b) (end b) (joined_length b)
      ∙ ap (λ (n : ℕ). joined (records b) ++ replicate n 0) count

  pub stores-done : made (stores b r) b ≡ take (end b) b ++ (r ++ replicate (left b r) 0)
  unfolding stores
  stores-done =
      made-append (clears (end b) (drop (end b) b)) (writes (end b) r) b ∙ ap (made (writes (end b) r)) tidied
      ∙ writes-made (joined (records b)) r (left b r) (end b) (joined_length b)
      ∙ ap (λ (f : List ℕ). f ++ (r ++ replicate (left b r) 0)) (sym (front-joined b))

  -- while tidying, a part of the torn rest is after the old records
  tidying-keeps : Before (Shows (records b)) (clears (end b) (drop (end b) b)) b
  tidying-keeps =
      let rest = drop (end b) b in
      subst (Before (Shows (records b)) (clears (end b) rest)) (sym (split b))
      (clears-before (Shows (records b)) (joined (records b)) rest (end b) (joined_length b)
      (λ j. records-of (records b) (part j rest) (records-entries b) (part-torn j rest (end-torn b))))

  -- while writing, a part of the new record, which is not all of it
  writing-keeps : Before (Shows (records b)) (writes (end b) r) (joined (records b) ++ replicate (length r + left b r) 0)
  writing-keeps =
      let new = r ++ replicate (left b r) 0 in
      let same = size-append r (replicate (left b r) 0) entry.is_whole.two in
      writes-before (Shows (records b)) (joined (records b)) r (left b r) (end b) (joined_length b)
      (λ j h. records-of (records b) (part j new) (records-entries b) (part-short j new (omega (arith, entry.exact))))

  pub stores-keep : Before (Shows (records b)) (stores b r) b
  unfolding stores
  stores-keep =
      before-append (Shows (records b)) (clears (end b) (drop (end b) b)) (writes (end b) r) b tidying-keeps
      (subst (Before (Shows (records b)) (writes (end b) r)) (sym tidied) writing-keeps)

  pub stores-seen : records (made (stores b r) b) ≡ records b ++ (r ∷ [])
  stores-seen =
      ap records (stores-done ∙ ap (λ (f : List ℕ). f ++ (r ++ replicate (left b r) 0)) (front-joined b)
      ∙ sym (append_assoc (joined (records b)) r (replicate (left b r) 0))
      ∙ ap (λ (f : List ℕ). f ++ replicate (left b r) 0) (sym (joined_snoc (records b) r)))
      ∙ records-of (records b ++ (r ∷ [])) (replicate (left b r) 0) (entries-snoc (records b) r (records-entries b) entry)
      (zeros-torn (left b r))

  pub stores-few : length (stores b r) ≤ 2 * length b
  unfolding stores
  stores-few =
      let rest = drop (end b) b in
      omega (
        arith,
        length-append (clears (end b) rest) (writes (end b) r),
        clears-few (end b) rest,
        writes-length (end b) r,
        length-drop (end b) b,
      )

  -- the new record is there after the last store, and not before
  pub cut-seen : (k : ℕ) → records (made (take k (stores b r)) b) ≡ with_new b r (leb (length (stores b r)) k)
  cut-seen k = go (leb (length (stores b r)) k) refl
    where
      go : (t : Bool) → leb (length (stores b r)) k ≡ t → records (made (take k (stores b r)) b) ≡ with_new b r t
      go true e = ap (λ (ss : List Store). records (made ss b)) (take_all k (stores b r) (leb-true _ _ e)) ∙ stores-seen
      go false e = before-take (Shows (records b)) (stores b r) b k stores-keep (leb-false _ _ e)
