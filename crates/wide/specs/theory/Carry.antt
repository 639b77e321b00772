-- Carrying: one word of a product is stored, the rest goes on to the next word.
--     Scaling a w l c i             the first i words of a·w are stored in l, and c is the carry
--     scaling-start, -more, -end    the moves of its loop; the last carry is the highest word
use Rattle.std.specs.Prelude.{◌≡◌, ℕ, ◌+◌, ◌*◌, ◌^◌, ◌<◌, ◌≤◌, List, length, take, slice_index, slice_set}
use Rattle.std.proofs.Common.{sym, ◌∙◌, ap, length-set, take_all}
use native.Mathlib.Omega.{arith}
use Rattle.wide.specs.Value.{value}
use Rattle.wide.specs.theory.Laws.{weight, weight-next, value-take, value-store}

pub record Scaling (a : List ℕ) (w : ℕ) (l : List ℕ) (c i : ℕ) : Type 0 where
  pub within : i ≤ length a
  pub long : length l ≡ length a + 1
  pub sum : value (take i l) + weight i * c ≡ value (take i a) * w

module _ {a : List ℕ} {w : ℕ} where
  pub scaling-start : {l : List ℕ} → length l ≡ length a + 1 → Scaling a w l 0 0
  unfolding value
  scaling-start h = record { within = omega arith; long = h; sum = omega arith }

  pub scaling-more : {l : List ℕ} {c i : ℕ} (r q : ℕ) → Scaling a w l c i → i < length a → r + q * 2 ^ 64 ≡ slice_index a i * w + c
      → Scaling a w (slice_set l i r) q (i + 1)
  scaling-more {l} {c} {i} r q s h e =
      record {
        within = omega arith;
        long = rw length-set s.long;
        sum =
            rw (weight-next i, value-take a i h, value-store l i r (omega (arith, s.long)))
            (omega (arith, s.sum, ap (λ (z : ℕ). weight i * z) e));
      }

  pub scaling-end : {l : List ℕ} {c i : ℕ} → Scaling a w l c i → i ≡ length a → value (slice_set l (length a) c) ≡ value a * w
  scaling-end {l} {c} {i} s h =
      let whole = take_all (i + 1) (slice_set l i c) (rw length-set (omega (arith, s.long))) in
      ap (λ (k : ℕ). value (slice_set l k c)) (sym h) ∙ ap value (sym whole) ∙ value-store l i c (omega (arith, s.within, s.long)) ∙ s.sum
      ∙ ap (λ z. value z * w) (take_all i a (omega (arith, h)))
