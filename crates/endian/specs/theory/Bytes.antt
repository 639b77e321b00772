-- Numbers as bytes: how many there are, and that they read back.
--     pair-length, word-length, words-length      two bytes, four, and four for each number; `words_at-length`: as many numbers as are read
--     words_more      the bytes of one number more; `words_at-at`: each number that is read
--     get_d_past, pair_at-past, word_at-past, words_at-past      what is read after some bytes f does not depend on f
--     pair_at-drop, word_at-drop, words_at-drop, and -take      the same of a part
--     pair_at-pair, words_at-words      what was written at the place p reads back
use Rattle.std.specs.Prelude.{◌≡◌, length, take, drop, ℤ, pos}
use Rattle.std.proofs.Math.Path.{refl, ap, ap₂}
use Rattle.std.proofs.Common.{sym, ◌∙◌, le_of_suc-le-suc, not-suc-le-zero, add-one, length-append, get_or-append-add, get_or-take}
use Rattle.std.proofs.Common.{get_or-drop, take-suc, to_z-of_z}
use mathlib.Core.List.{List, [], ◌∷◌, ◌++◌, append_assoc, append-nil}
use Prim.Native.Nat.{ℕ, zero, suc, ◌+◌, ◌*◌, ◌/◌, ◌%◌, ◌≤◌, ◌<◌, suc-le-suc}
use native.Mathlib.Omega.{arith}
use Rattle.std.proofs.Math.ListN.{get_or}
use mir.Syntax.{w32}
use mir.Val.{SFits, of_z, to_z}
use Rattle.std.proofs.Math.Facts.{Fits-of_z, Fits-lt-pow}
use Rattle.endian.specs.Bytes.{pair, pair_at, word, word_at, words, words_at}

-- ---- lengths

pub pair-length : (n : ℕ) → length (pair n) ≡ 2
unfolding pair
pair-length n = refl

pub word-length : (z : ℤ) → length (word z) ≡ 4
unfolding word pair
word-length z = refl

pub words-length : (l : List ℤ) → length (words l) ≡ 4 * length l
unfolding words
words-length [] = refl
words-length (z ∷ l) = omega (arith, length-append (word z) (words l), word-length z, words-length l)

-- ---- one number more

words_append : (l m : List ℤ) → words (l ++ m) ≡ words l ++ words m
unfolding words
words_append [] m = refl
words_append (z ∷ l) m = ap (λ (t : List ℕ). word z ++ t) (words_append l m) ∙ sym (append_assoc (word z) (words l) (words m))

pub words_more : (l : List ℤ) (i : ℕ) → i < length l → words (take i l) ++ word (get_or l i (pos 0)) ≡ words (take (i + 1) l)
unfolding words
words_more l i h =
    ap (λ (t : List ℕ). words (take i l) ++ t) (sym (append-nil (word (get_or l i (pos 0)))))
    ∙ sym (words_append (take i l) (get_or l i (pos 0) ∷ []))
    ∙ ap words (sym (take-suc l i (pos 0) h) ∙ ap (λ (k : ℕ). take k l) (sym (add-one i)))

module _ (t : List ℕ) where
  pub words_at-length : (c p : ℕ) → length (words_at c t p) ≡ c
  unfolding words_at
  words_at-length zero p = refl
  words_at-length (suc c) p = ap suc (words_at-length c (4 + p))

  pub words_at-at : (c p i : ℕ) → i < c → get_or (words_at c t p) i (pos 0) ≡ word_at t (p + 4 * i)
  unfolding words_at
  words_at-at zero p i h = absurd (not-suc-le-zero h)
  words_at-at (suc c) p zero h = ap (word_at t) (let e : p ≡ p + 4 * 0 = omega arith in e)
  words_at-at (suc c) p (suc i) h =
      words_at-at c (4 + p) i (le_of_suc-le-suc h) ∙ ap (word_at t) (let e : (4 + p) + 4 * i ≡ p + 4 * suc i = omega arith in e)

-- ---- a place, counted from a later one

pub get_d_past : (f t : List ℕ) (k p : ℕ) → k ≡ length f + p → get_or (f ++ t) k 0 ≡ get_or t p 0
get_d_past f t k p e = ap (λ (i : ℕ). get_or (f ++ t) i 0) e ∙ get_or-append-add f t p 0

module _ (f t : List ℕ) where
  pub pair_at-past : (k p : ℕ) → k ≡ length f + p → pair_at (f ++ t) k ≡ pair_at t p
  unfolding pair_at
  pair_at-past k p e = ap₂ (λ (a c : ℕ). a + 256 * c) (get_d_past f t k p e) (get_d_past f t (1 + k) (1 + p) (omega arith))

  pub word_at-past : (k p : ℕ) → k ≡ length f + p → word_at (f ++ t) k ≡ word_at t p
  unfolding word_at
  word_at-past k p e =
      ap₂ (λ (a c : ℕ). to_z w32 (a + 65536 * c)) (pair_at-past k p e) (pair_at-past (2 + k) (2 + p) (omega arith))

  pub words_at-past : (c k p : ℕ) → k ≡ length f + p → words_at c (f ++ t) k ≡ words_at c t p
  unfolding words_at
  words_at-past zero k p e = refl
  words_at-past (suc c) k p e =
      ap₂ (λ (z : ℤ) (l : List ℤ). z ∷ l) (word_at-past k p e) (words_at-past c (4 + k) (4 + p) (omega arith))

module _ (t : List ℕ) where
  pub pair_at-drop : (n p : ℕ) → pair_at (drop n t) p ≡ pair_at t (n + p)
  unfolding pair_at
  pair_at-drop n p =
      ap₂ (λ (a c : ℕ). a + 256 * c) (get_or-drop n t p 0)
      (get_or-drop n t (1 + p) 0 ∙ ap (λ (i : ℕ). get_or t i 0) (let e : n + (1 + p) ≡ 1 + (n + p) = omega arith in e))

  pub word_at-drop : (n p : ℕ) → word_at (drop n t) p ≡ word_at t (n + p)
  unfolding word_at
  word_at-drop n p =
      ap₂ (λ (a c : ℕ). to_z w32 (a + 65536 * c)) (pair_at-drop n p)
      (pair_at-drop n (2 + p) ∙ ap (pair_at t) (let e : n + (2 + p) ≡ 2 + (n + p) = omega arith in e))

  pub words_at-drop : (c n p : ℕ) → words_at c (drop n t) p ≡ words_at c t (n + p)
  unfolding words_at
  words_at-drop zero n p = refl
  words_at-drop (suc c) n p =
      ap₂ (λ (z : ℤ) (l : List ℤ). z ∷ l) (word_at-drop n p)
      (words_at-drop c n (4 + p) ∙ ap (words_at c t) (let e : n + (4 + p) ≡ 4 + (n + p) = omega arith in e))

  pub pair_at-take : (n p : ℕ) → 2 + p ≤ n → pair_at (take n t) p ≡ pair_at t p
  unfolding pair_at
  pair_at-take n p h = ap₂ (λ (a c : ℕ). a + 256 * c) (get_or-take n t p 0 (omega arith)) (get_or-take n t (1 + p) 0 (omega arith))

  pub word_at-take : (n p : ℕ) → 4 + p ≤ n → word_at (take n t) p ≡ word_at t p
  unfolding word_at
  word_at-take n p h =
      ap₂ (λ (a c : ℕ). to_z w32 (a + 65536 * c)) (pair_at-take n p (omega arith)) (pair_at-take n (2 + p) (omega arith))

  pub words_at-take : (c n p : ℕ) → p + 4 * c ≤ n → words_at c (take n t) p ≡ words_at c t p
  unfolding words_at
  words_at-take zero n p h = refl
  words_at-take (suc c) n p h =
      ap₂ (λ (z : ℤ) (l : List ℤ). z ∷ l) (word_at-take n p (omega arith)) (words_at-take c n (4 + p) (omega arith))

-- ---- there and back

pair-back : (n : ℕ) (t : List ℕ) → n < 65536 → pair_at (pair n ++ t) 0 ≡ n
unfolding pair pair_at
pair-back n t h = omega arith

word_back : (z : ℤ) (t : List ℕ) → SFits w32 z → word_at (word z ++ t) 0 ≡ z
unfolding word pair word_at pair_at
word_back z t h = ap (to_z w32) bits ∙ to_z-of_z h
  where
    bits : of_z w32 z % 65536 % 256 + 256 * (of_z w32 z % 65536 / 256 % 256)
        + 65536 * (of_z w32 z / 65536 % 256 + 256 * (of_z w32 z / 65536 / 256 % 256)) ≡ of_z w32 z
    bits = omega (arith, Fits-lt-pow (Fits-of_z h))

pub pair_at-pair : (f t : List ℕ) (p : ℕ) → length f ≡ p → (n : ℕ) → n < 65536 → pair_at (f ++ (pair n ++ t)) p ≡ n
pair_at-pair f t p here n h = pair_at-past f (pair n ++ t) p 0 (omega (arith, here)) ∙ pair-back n t h

words_back : (l : List ℤ) (t : List ℕ) → ((i : ℕ) → i < length l → SFits w32 (get_or l i (pos 0))) → words_at (length l) (words l ++ t) 0 ≡
    l
unfolding words_at words
words_back [] t h = refl
words_back (z ∷ l) t h =
    ap (λ (s : List ℕ). word_at s 0 ∷ words_at (length l) s 4) (append_assoc (word z) (words l) t)
    ∙ ap₂ (λ (y : ℤ) (m : List ℤ). y ∷ m) (word_back z (words l ++ t) (h 0 (omega arith)))
    (words_at-past (word z) (words l ++ t) (length l) 4 0 (omega (arith, word-length z))
    ∙ words_back l t (λ i b. h (suc i) (suc-le-suc b)))

pub words_at-words : (f t : List ℕ) (p : ℕ) → length f ≡ p → (l : List ℤ)
    → ((i : ℕ) → i < length l → SFits w32 (get_or l i (pos 0))) → words_at (length l) (f ++ (words l ++ t)) p ≡ l
words_at-words f t p here l h = words_at-past f (words l ++ t) (length l) p 0 (omega (arith, here)) ∙ words_back l t h
