-- Stores made as far as they are allowed, in parts.
--     take-append, made-length            the first of two lists of stores, one after the other; a store keeps the length
--     ran-byte, ran-length                one store; the log stays as long as it is
--     ran-kept, ran-cleared               a byte that is 0, and one that is cleared
--     ran-blank                           nothing is cleared where all bytes are 0
--     Cleared, cleared-start, -next       the bytes from a place on are cleared; one byte more
--     ran-byte-more                       one byte more
--     ran-pair, -pair-bytes, -word-bytes  numbers of two and of four bytes
--     ran-start, ran-more                 a list of numbers; one more
--     ran-recorded                        a record, field by field, and whether its last byte was stored
--     ran-stores                          all stores of an addition, and whether they were made
use Rattle.std.specs.Prelude.{◌≡◌, refl, Bool, true, false, cond, List, [], ◌∷◌, ◌++◌, ℕ, zero, suc, ◌+◌, ◌*◌, ◌-◌, ◌/◌, ◌%◌, ◌≤◌, ◌<◌, eqb}
use Rattle.std.specs.Prelude.{leb, ltb, ℤ, pos, length, get_or, take, drop, set}
use Rattle.std.proofs.Common.{sym, ◌∙◌, ap, ap₂, subst, not-suc-le-zero, arith, leb-true, leb-false, le-leb, eq-eqb, ne_eqb, length-append}
use Rattle.std.proofs.Common.{length-drop, length-set, take-take, length-take-le, get_or-take, get_or-drop, drop-cons, SFits, of_z}
use Rattle.std.proofs.lemmas.Bool.{lt-leb}
use Rattle.std.proofs.Math.Facts.{Fits-of_z, Fits-lt-pow}
use Rattle.std.proofs.Math.Seq.{take-nil, take-suc, drop-length}
use Rattle.std.proofs.lemmas.List.{take-set-le}
use Rattle.std.specs.Int.{w16, w32, to_le_bytes}
use Rattle.endian.specs.Bytes.{pair, word, words}
use Rattle.endian.specs.theory.Coded.{word-bytes}
use Rattle.endian.specs.theory.Bytes.{pair-length, words-length, words_more}
use Rattle.journal.specs.Format.{last_byte, fixed_bytes, recorded_as, recorded}
use Rattle.journal.specs.Adding.{Store, store, end, clears, writes, stores, made}
use Rattle.journal.specs.Allowance.{cleared, Blank, Ran}
use Rattle.journal.proofs.theory.Read.{recorded-length}
use Rattle.journal.proofs.theory.Stores.{made-append, writes-length}

-- ---- parts

pub take-append : (k : ℕ) (ss ts : List Store) → take k (ss ++ ts) ≡ take k ss ++ take (k - length ss) ts
take-append k [] ts = ap₂ (λ (n : ℕ) (us : List Store). us ++ take n ts) (let e : k ≡ k - 0 = omega arith in e) (sym (take-nil k))
take-append zero (s ∷ ss) ts = ap (λ (n : ℕ). take n ts) (let e : 0 ≡ 0 - suc (length ss) = omega arith in e)
take-append (suc k) (s ∷ ss) ts =
    ap (λ (us : List Store). s ∷ us) (take-append k ss ts
    ∙ ap (λ (n : ℕ). take k ss ++ take n ts) (let e : k - length ss ≡ suc k - suc (length ss) = omega arith in e))

ran-none : (k : ℕ) (b : List ℕ) → Ran k [] b k b
ran-none k b = record { left_is = omega arith; log_is = sym (ap (λ ss. made ss b) (take-nil k)) }

ran_append : {k m n : ℕ} {ss ts : List Store} {b c d : List ℕ} → Ran k ss b m c → Ran m ts c n d → Ran k (ss ++ ts) b n d
ran_append {k} {m} {n} {ss} {ts} {b} {c} {d} f g = record {
  left_is = omega (arith, f.left_is, g.left_is, length-append ss ts);
  log_is =
      g.log_is ∙ ap₂ (λ (i : ℕ) (x : List ℕ). made (take i ts) x) f.left_is f.log_is
      ∙ sym (made-append (take k ss) (take (k - length ss) ts) b) ∙ ap (λ (us : List Store). made us b) (sym (take-append k ss ts));
}

pub ran-byte : (k p x : ℕ) (b : List ℕ) → 0 < k → Ran k (writes p (x ∷ [])) b (k - 1) (set b p x)
ran-byte zero p x b h = absurd (not-suc-le-zero h)
ran-byte (suc k) p x b h = record { left_is = refl; log_is = sym (ap (λ ss. made ss (set b p x)) (take-nil k)) }

pub made-length : (ss : List Store) (b : List ℕ) → length (made ss b) ≡ length b
made-length [] b = refl
made-length (s ∷ ss) b = made-length ss (set b s.place s.byte) ∙ length-set b s.place s.byte

pub ran-length : {k m : ℕ} {ss : List Store} {b c : List ℕ} → Ran k ss b m c → length c ≡ length b
ran-length {k} {ss = ss} {b = b} f = ap length f.log_is ∙ made-length (take k ss) b

-- ---- bytes written

writes-append : (p : ℕ) (r s : List ℕ) → writes p (r ++ s) ≡ writes p r ++ writes (p + length r) s
writes-append p [] s = ap (λ (q : ℕ). writes q s) (let e : p ≡ p + 0 = omega arith in e)
writes-append p (x ∷ r) s =
    ap (λ (ss : List Store). store p x ∷ ss) (writes-append (1 + p) r s
    ∙ ap (λ (q : ℕ). writes (1 + p) r ++ writes q s) (let e : 1 + p + length r ≡ p + suc (length r) = omega arith in e))

ran-writes : {k m n : ℕ} (p q : ℕ) (r s : List ℕ) {b c d : List ℕ}
    → Ran k (writes p r) b m c → q ≡ p + length r → Ran m (writes q s) c n d → Ran k (writes p (r ++ s)) b n d
ran-writes {k} {m} {n} p q r s {b} {c} {d} f e g =
    subst (λ (ss : List Store). Ran k ss b n d) (ap (λ (i : ℕ). writes p r ++ writes i s) e ∙ sym (writes-append p r s)) (ran_append f g)

-- ---- bytes cleared

pub ran-kept : (k p x : ℕ) (b : List ℕ) → x ≡ 0 → Ran k (cleared p x) b k b
ran-kept k p x b e =
    subst (λ (t : Bool). Ran k (cond t [] (store p 0 ∷ [])) b k b) (sym (eq-eqb x 0 e)) (ran-none k b)

pub ran-cleared : {k m : ℕ} {b c : List ℕ} (p x : ℕ) → (x ≡ 0 → ⊥) → Ran k (writes p (0 ∷ [])) b m c → Ran k (cleared p x) b m c
ran-cleared {k} {m} {b} {c} p x h f = subst (λ (t : Bool). Ran k (cond t [] (store p 0 ∷ [])) b m c) (sym (ne_eqb x 0 h)) f

-- where all bytes are 0, none is cleared
clears-none : (p : ℕ) (t : List ℕ) → ((i : ℕ) → i < length t → get_or t i 0 ≡ 0) → clears p t ≡ []
clears-none p [] h = refl
clears-none p (x ∷ t) h =
    ap₂ (λ (ss : List Store) (e : Bool). ss ++ cond e [] (store p 0 ∷ [])) (clears-none (1 + p) t (λ i l. h (suc i) (omega (arith, l))))
    (eq-eqb x 0 (h 0 (omega arith)))

pub ran-blank : (k : ℕ) (b : List ℕ) (p : ℕ) → Blank b p → Ran k (clears p (drop p b)) b k b
ran-blank k b p h =
    subst (λ (ss : List Store). Ran k ss b k b) (sym (clears-none p (drop p b) zero-at)) (ran-none k b)
  where
    zero-at : (i : ℕ) → i < length (drop p b) → get_or (drop p b) i 0 ≡ 0
    zero-at i l = get_or-drop p b i 0 ∙ h (p + i) (omega arith) (omega (arith, l, length-drop p b))

-- the bytes of b from p on are cleared, as far as k stores go; those before p are not changed
pub record Cleared (k : ℕ) (b : List ℕ) (p m : ℕ) (c : List ℕ) : Type 0 where
  pub inside : p ≤ length b
  pub ran : Ran k (clears p (drop p b)) b m c
  pub front : take p c ≡ take p b

pub cleared-start : (k : ℕ) (b : List ℕ) → Cleared k b (length b) k b
cleared-start k b = record {
  inside = omega arith;
  ran = subst (λ (t : List ℕ). Ran k (clears (length b) t) b k b) (sym (drop-length b)) (ran-none k b);
  front = refl;
}

-- one byte changes nothing before it
front_kept : (k p x : ℕ) (b : List ℕ) → take p (made (take k (cleared p x)) b) ≡ take p b
front_kept k p x b = go k (eqb x 0)
  where
    go : (k : ℕ) (t : Bool) → take p (made (take k (cond t [] (store p 0 ∷ []))) b) ≡ take p b
    go k true = ap (λ (ss : List Store). take p (made ss b)) (take-nil k)
    go zero false = refl
    go (suc k) false = ap (λ (ss : List Store). take p (made ss (set b p 0))) (take-nil k) ∙ take-set-le p b p 0 (omega arith)

pub cleared-next : {k m n : ℕ} {b c d : List ℕ} (q : ℕ) → Cleared k b (suc q) m c → Ran m (cleared q (get_or c q 0)) c n d → Cleared k b q n
    d
cleared-next {k} {m} {n} {b} {c} {d} q f g = record {
  inside = omega (arith, f.inside);
  ran = subst (λ (ss : List Store). Ran k ss b n d) together (ran_append f.ran g);
  front =
      ap (take q) g.log_is ∙ front_kept m q (get_or c q 0) c
      ∙ sym (take-take q (suc q) c (omega arith)) ∙ ap (take q) f.front ∙ take-take q (suc q) b (omega arith);
}
  where
    same : get_or c q 0 ≡ get_or b q 0
    same =
        sym (get_or-take (suc q) c q 0 (omega arith)) ∙ ap (λ (t : List ℕ). get_or t q 0) f.front
        ∙ get_or-take (suc q) b q 0 (omega arith)

    together : clears (suc q) (drop (suc q) b) ++ cleared q (get_or c q 0) ≡ clears q (drop q b)
    together =
        ap₂ (λ (i x : ℕ). clears i (drop (suc q) b) ++ cleared q x) (let e : suc q ≡ 1 + q = omega arith in e) same
        ∙ ap (clears q) (sym (drop-cons b q 0 f.inside))

-- ---- numbers written

pub ran-byte-more : {k m o : ℕ} {b c d : List ℕ} (p i : ℕ) (l : List ℕ) → i < length l → Ran k (writes p (take i l)) b m c
    → Ran m (writes (p + i) (get_or l i 0 ∷ [])) c o d → Ran k (writes p (take (i + 1) l)) b o d
ran-byte-more {k} {m} {o} {b} {c} {d} p i l h f g =
    let next : suc i ≡ i + 1 = omega arith in
    subst (λ (t : List ℕ). Ran k (writes p t) b o d) (sym (take-suc l i 0 h) ∙ ap (λ (j : ℕ). take j l) next)
    (ran-writes p (p + i) (take i l) (get_or l i 0 ∷ []) f (omega (arith, length-take-le i l (omega arith))) g)

pub ran-pair-bytes : {k m : ℕ} {b c : List ℕ} (p n : ℕ) → Ran k (writes p (to_le_bytes w16 n)) b m c → Ran k (writes p (pair n)) b m c
unfolding pair
ran-pair-bytes p n f = f

pub ran-pair : {k m o : ℕ} {b c d : List ℕ} (p n : ℕ) → Ran k (writes p (n % 256 ∷ [])) b m c
    → Ran m (writes (p + 1) (n / 256 % 256 ∷ [])) c o d → Ran k (writes p (pair n)) b o d
unfolding pair
ran-pair p n f g = ran-writes p (p + 1) (n % 256 ∷ []) (n / 256 % 256 ∷ []) f refl g

pub ran-word-bytes : {k m : ℕ} {b c : List ℕ} (p : ℕ) (z : ℤ) → SFits w32 z → Ran k (writes p (to_le_bytes w32 (of_z w32 z))) b m c
    → Ran k (writes p (word z)) b m c
unfolding word
ran-word-bytes {k} {m} {b} {c} p z f =
    subst (λ (t : List ℕ). Ran k (writes p t) b m c) (word-bytes (of_z w32 z) (Fits-lt-pow (Fits-of_z f)))

pub ran-start : (k p : ℕ) (b : List ℕ) → Ran k (writes p (words [])) b k b
unfolding words
ran-start k p b = ran-none k b

pub ran-more : {k m o : ℕ} {b c d : List ℕ} (p i : ℕ) (l : List ℤ) {z : ℤ} → i < length l → z ≡ get_or l i (pos 0)
    → Ran k (writes p (words (take i l))) b m c → Ran m (writes (p + 4 * i) (word z)) c o d
    → Ran k (writes p (words (take (i + 1) l))) b o d
ran-more {k} {m} {o} {b} {c} {d} p i l {z} h e f g =
    subst (λ (t : List ℕ). Ran k (writes p t) b o d) (ap (λ (y : ℤ). words (take i l) ++ word y) e ∙ words_more l i h)
    (ran-writes p (p + 4 * i) (words (take i l)) (word z) f
    (omega (arith, words-length (take i l), length-take-le i l (omega arith))) g)

-- ---- whether all stores were made

enough : (a w k m : ℕ) → 0 < w → m ≡ k - a → leb w m ≡ leb (a + w) k
enough a w k m h e = go (leb w m) refl
  where
    go : (t : Bool) → leb w m ≡ t → t ≡ leb (a + w) k
    go true g = let le = leb-true w m g in sym (le-leb (a + w) k (omega arith))
    go false g = let lt = leb-false w m g in sym (lt-leb (a + w) k (omega arith))

-- a record, field by field
pub ran-recorded : {k s m₁ m₂ m₃ m₄ m₅ m₆ : ℕ} {b c₁ c₂ c₃ c₄ c₅ c₆ : List ℕ} (p n f : ℕ) (l : List ℤ) → s ≡ 7 + 4 * length l
    → Ran k (writes p (pair s)) b m₁ c₁ → Ran m₁ (writes (p + 2) (pair 2)) c₁ m₂ c₂ → Ran m₂ (writes (p + 4) (pair n)) c₂ m₃ c₃
    → Ran m₃ (writes (p + 6) (pair f)) c₃ m₄ c₄ → Ran m₄ (writes (p + 8) (words l)) c₄ m₅ c₅
    → Ran m₅ (writes (p + 1 + s) (last_byte ∷ [])) c₅ m₆ c₆
    → (ltb 0 m₅ ≡ leb (length (writes p (recorded n f l))) k) × (c₆ ≡ made (take k (writes p (recorded n f l))) b)
unfolding recorded recorded_as fixed_bytes
ran-recorded {k} {s} {m₁} {m₂} {m₃} {m₄} {m₅} {m₆} {b} {c₁} {c₂} {c₃} {c₄} {c₅} {c₆} p n f l e f₁ f₂ f₃ f₄ f₅ f₆ =
    let last = last_byte ∷ [] in
    let all : Ran k (writes p (pair s ++ (pair 2 ++ (pair n ++ (pair f ++ (words l ++ last)))))) b m₆ c₆ =
    ran-writes p (p + 2) (pair s) _ f₁ (omega (arith, pair-length s))
    (ran-writes (p + 2) (p + 4) (pair 2) _ f₂ (omega (arith, pair-length 2))
    (ran-writes (p + 4) (p + 6) (pair n) _ f₃ (omega (arith, pair-length n))
    (ran-writes (p + 6) (p + 8) (pair f) _ f₄ (omega (arith, pair-length f))
    (ran-writes (p + 8) (p + 1 + s) (words l) last f₅ (omega (arith, words-length l)) f₆)))) in
    let left : m₅ ≡ k - (8 + 4 * length l) =
    omega (
      arith,
      f₁.left_is,
      f₂.left_is,
      f₃.left_is,
      f₄.left_is,
      f₅.left_is,
      writes-length p (pair s),
      writes-length (p + 2) (pair 2),
      writes-length (p + 4) (pair n),
      writes-length (p + 6) (pair f),
      writes-length (p + 8) (words l),
      pair-length s,
      pair-length 2,
      pair-length n,
      pair-length f,
      words-length l,
    ) in
    let count : (8 + 4 * length l) + 1 ≡ length (writes p (recorded n f l)) =
    omega (arith, writes-length p (recorded n f l), recorded-length n f l) in (
      enough (8 + 4 * length l) 1 k m₅ (omega arith) left ∙ ap (λ (i : ℕ). leb i k) count,
      all.log_is ∙ ap (λ (i : ℕ). made (take k (writes p (pair i ++ (pair 2 ++ (pair n ++ (pair f ++ (words l ++ last))))))) b) e,
    )

-- the torn end cleared, then a record written
pub ran-stores : {k m : ℕ} {b c d : List ℕ} {t : Bool} (p : ℕ) (r : List ℕ) → p ≡ end b → 0 < length r
    → Ran k (clears p (drop p b)) b m c → t ≡ leb (length (writes p r)) m → d ≡ made (take m (writes p r)) c
    → (t ≡ leb (length (stores b r)) k) × (d ≡ made (take k (stores b r)) b)
unfolding stores
ran-stores {k} {m} {b} {c} {d} {t} p r e h f g w =
    let all = ran_append f (record { left_is = refl; log_is = w }) in
    let count : length (clears p (drop p b)) + length (writes p r) ≡ length (clears p (drop p b) ++ writes p r) =
    sym (length-append (clears p (drop p b)) (writes p r)) in (
      g ∙ enough (length (clears p (drop p b))) (length (writes p r)) k m (omega (arith, writes-length p r)) f.left_is
          ∙ ap (λ (i : ℕ). leb i k) count ∙ ap (λ (q : ℕ). leb (length (clears q (drop q b) ++ writes q r)) k) e,
      all.log_is ∙ ap (λ (q : ℕ). made (take k (clears q (drop q b) ++ writes q r)) b) e,
    )
