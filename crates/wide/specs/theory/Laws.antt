-- The laws of the value of a list of words.
--     weight i, weight-next      what a one in word i counts for: 2 ^ (64 · i)
--     value-word                 a number of one word
--     value-split                a number in a low and a high part
--     value-drop, value-take     one word less above, one more below; value-drop-all: none left above
--     value-store                one word more below, where it is stored
--     Words, low-lt-weight       each element is a word; n words make less than the weight of place n
use Rattle.std.specs.Prelude.{◌≡◌, ℕ, zero, suc, ◌+◌, ◌*◌, ◌^◌, ◌<◌, ◌≤◌, List, [], ◌∷◌, length, take, drop, slice_index, slice_set, refl}
use Rattle.std.proofs.Common.{sym, mul-add, le_of_suc-le-suc, add-one, arith, drop_of_length-le, pow-add, pow_pos}
use Rattle.std.proofs.lemmas.List.{set-get_or}
use Rattle.wide.specs.Value.{value}

-- ---- weights

unfoldable pub weight : ℕ → ℕ
weight i = 2 ^ (64 * i)

weight-zero : weight 0 ≡ 1
unfolding weight
weight-zero = refl

pub weight-next : (n : ℕ) → weight (n + 1) ≡ 2 ^ 64 * weight n
unfolding weight
weight-next n = let e : 2 ^ (64 * (n + 1)) ≡ 2 ^ (64 * n) * 2 ^ 64 = rw mul-add (pow-add 2 (64 * n) 64) in omega arith

weight-pos : (n : ℕ) → 0 < weight n
unfolding weight
weight-pos n = pow_pos (64 * n)

weight-suc : (n : ℕ) → weight (suc n) ≡ 2 ^ 64 * weight n
weight-suc n = rw (sym (add-one n)) (weight-next n)

-- ---- low and high parts

pub value-word : (w : ℕ) → value (w ∷ []) ≡ w
unfolding value
value-word w = omega arith

pub value-split : (n : ℕ) (l : List ℕ) → n ≤ length l → value l ≡ value (take n l) + weight n * value (drop n l)
unfolding value
value-split zero l h = rw weight-zero (omega arith)
value-split (suc n) [] h = let f : ⊥ = omega arith in absurd f
value-split (suc n) (w ∷ l) h = rw (weight-suc n) (omega (arith, value-split n l (le_of_suc-le-suc h)))

-- ---- one word

drop-suc : (l : List ℕ) (i : ℕ) → i < length l → value (drop i l) ≡ slice_index l i + 2 ^ 64 * value (drop (suc i) l)
unfolding value
drop-suc [] i h = let f : ⊥ = omega arith in absurd f
drop-suc (w ∷ l) zero h = refl
drop-suc (w ∷ l) (suc i) h = drop-suc l i (le_of_suc-le-suc h)

pub value-drop : (l : List ℕ) (i : ℕ) → i < length l → value (drop i l) ≡ slice_index l i + 2 ^ 64 * value (drop (i + 1) l)
value-drop l i h = rw (add-one i) (drop-suc l i h)

pub value-drop-all : (i : ℕ) (l : List ℕ) → length l ≤ i → value (drop i l) ≡ 0
unfolding value
value-drop-all i l h = rw (drop_of_length-le l h)

store-suc : (l : List ℕ) (i w : ℕ) → i < length l → value (take (suc i) (slice_set l i w)) ≡ value (take i l) + weight i * w
unfolding value
store-suc [] i w h = let f : ⊥ = omega arith in absurd f
store-suc (x ∷ l) zero w h = rw weight-zero (omega arith)
store-suc (x ∷ l) (suc i) w h = rw (weight-suc i) (omega (arith, store-suc l i w (le_of_suc-le-suc h)))

pub value-store : (l : List ℕ) (i w : ℕ) → i < length l → value (take (i + 1) (slice_set l i w)) ≡ value (take i l) + weight i * w
value-store l i w h = rw (add-one i) (store-suc l i w h)

pub value-take : (l : List ℕ) (i : ℕ) → i < length l → value (take (i + 1) l) ≡ value (take i l) + weight i * slice_index l i
value-take l i h = rw (set-get_or l i 0) at (value-store l i (slice_index l i) h)

-- ---- bounds

abbrev pub Words : List ℕ → Type 0
Words l = (k : ℕ) → slice_index l k < 2 ^ 64

pub low-lt-weight : (n : ℕ) (l : List ℕ) → Words l → value (take n l) < weight n
unfolding value
low-lt-weight zero l h = omega (arith, weight-zero)
low-lt-weight (suc n) [] h = weight-pos (suc n)
low-lt-weight (suc n) (w ∷ l) h = rw (weight-suc n) (omega (arith, h 0, low-lt-weight n l (λ k. h (suc k))))
