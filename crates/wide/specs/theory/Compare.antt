-- Comparing from the top: of two numbers that agree from word k on, word k - 1 decides if it differs.
--     above-none, none_below     the ends of the loop
--     word-agrees      if it does not differ, they agree from word k - 1 on
--     word-decides     if it differs, the numbers compare as these words
use Rattle.std.specs.Prelude.{◌≡◌, ℕ, zero, suc, ◌+◌, ◌-◌, ◌*◌, ◌<◌, ◌≤◌, Bool, true, false, List, length, drop, ◌≢◌, nat_lt, slice_index}
use Rattle.std.specs.Prelude.{slice_index_or, refl}
use Rattle.std.proofs.Common.{sym, ◌∙◌, ap, mul-le-mul_left, arith, lt-ltb, le-ltb, ltb-true, ltb-false}
use Rattle.wide.specs.Value.{value}
use Rattle.wide.specs.theory.Laws.{weight, Words, value-split, value-drop, value-drop-all, low-lt-weight}

module _ (i h : ℕ) where
  -- a smaller word makes a smaller number, whatever is below
  smaller : (a b : List ℕ) → i < length a → i < length b → Words a → value (drop (i + 1) a) ≡ h → value (drop (i + 1) b) ≡ h
      → slice_index a i < slice_index b i → value a < value b
  smaller a b ia ib ha ea eb l =
      omega (
        arith,
        value-split i a (omega arith),
        value-split i b (omega arith),
        low-lt-weight i a ha,
        ap (λ (z : ℕ). weight i * z) (value-drop a i ia),
        ap (λ (z : ℕ). weight i * z) (value-drop b i ib),
        ap (λ (z : ℕ). weight i * z) ea,
        ap (λ (z : ℕ). weight i * z) eb,
        mul-le-mul_left (weight i) l,
      )

decides : (a b : List ℕ) (i : ℕ) → i < length a → i < length b → Words a → Words b → value (drop (i + 1) a) ≡ value (drop (i + 1) b)
    → (slice_index a i ≢ slice_index b i) → nat_lt (slice_index a i) (slice_index b i) ≡ nat_lt (value a) (value b)
decides a b i ia ib ha hb above differ = go (nat_lt (slice_index a i) (slice_index b i)) refl
  where
    go : (r : Bool) → nat_lt (slice_index a i) (slice_index b i) ≡ r → r ≡ nat_lt (value a) (value b)
    go true e = sym (lt-ltb (value a) (value b) (smaller i (value (drop (i + 1) b)) a b ia ib ha above refl (ltb-true _ _ e)))
    go false e =
        let l : slice_index_or b i 0 < slice_index_or a i 0 = omega (arith, ltb-false (slice_index a i) (slice_index b i) e) in
        sym (le-ltb (value a) (value b) (omega (arith, smaller i (value (drop (i + 1) a)) b a ib ia hb (sym above) refl l)))

-- ---- the loop: at first nothing is above, and at last nothing below

pub above-none : (a b : List ℕ) → length a ≡ length b → value (drop (length a) a) ≡ value (drop (length a) b)
above-none a b same = value-drop-all (length a) a (omega arith) ∙ sym (value-drop-all (length a) b (omega arith))

pub none_below : (a b : List ℕ) (k : ℕ) → k ≤ 0 → value (drop k a) ≡ value (drop k b) → false ≡ nat_lt (value a) (value b)
none_below a b zero h same = sym (le-ltb (value a) (value b) (omega arith))
none_below a b (suc k) h same = let f : ⊥ = omega arith in absurd f

-- ---- from word k on they agree, and word k - 1 is looked at

module _ (a b : List ℕ) (k : ℕ) (some : 0 < k) (ka : k ≤ length a) (kb : k ≤ length b) (above : value (drop k a) ≡ value (drop k b)) where
  back : k - 1 + 1 ≡ k
  back = omega arith

  pub word-agrees : slice_index_or a (k - 1) 0 ≡ slice_index b (k - 1) → value (drop (k - 1) a) ≡ value (drop (k - 1) b)
  word-agrees same =
      omega (arith, rw back at (value-drop a (k - 1) (omega arith)), rw back at (value-drop b (k - 1) (omega arith)))

  pub word-decides : Words a → Words b → (slice_index a (k - 1) ≢ slice_index b (k - 1))
      → nat_lt (slice_index a (k - 1)) (slice_index b (k - 1)) ≡ nat_lt (value a) (value b)
  word-decides ha hb differ = decides a b (k - 1) (omega arith) (omega arith) ha hb (rw back above) differ
