-- A strict order on the numbers below n has a last one: each step of a walk along it leaves fewer numbers after it.
--     counted p n        how many numbers below n pass the test p
--     counted-less       fewer pass p than q, if q passes all that p does and one more
--     counted-after      if k comes after i, fewer numbers come after k than after i
--     last_of            so there is a number after which none comes
use Rattle.std.specs.Prelude.{◌≡◌, refl, Bool, true, false, cond, ℕ, zero, suc, ◌≤◌, ◌<◌}
use Rattle.std.proofs.Math.Decide.{ℕ_discrete}
use Rattle.std.proofs.Common.{arith}
use Rattle.plane.specs.Search.{some}
use Rattle.plane.proofs.theory.lists.Sought.{true-not-false, some-witness, some-none}

abbrev pub counted : (ℕ → Bool) → ℕ → ℕ
counted p zero = 0
counted p (suc n) = let m = counted p n in cond (p n) (suc m) m

-- one number more: q passes wherever p does
step : (a b : Bool) {m n : ℕ} → m ≤ n → (a ≡ true → b ≡ true) → cond a (suc m) m ≤ cond b (suc n) n
step true true h f = omega arith
step true false h f = true-not-false (f refl) refl
step false true h f = omega arith
step false false h f = h

step_less : (a b : Bool) {m n : ℕ} → m < n → (a ≡ true → b ≡ true) → cond a (suc m) m < cond b (suc n) n
step_less true true h f = omega arith
step_less true false h f = true-not-false (f refl) refl
step_less false true h f = omega arith
step_less false false h f = h

counted-le : (p q : ℕ → Bool) (n : ℕ) → ((i : ℕ) → i < n → p i ≡ true → q i ≡ true) → counted p n ≤ counted q n
counted-le p q zero f = omega arith
counted-le p q (suc n) f = step (p n) (q n) (counted-le p q n (λ i h. f i (omega arith))) (f n (omega arith))

pub counted-less : (p q : ℕ → Bool) (n : ℕ) → ((i : ℕ) → i < n → p i ≡ true → q i ≡ true)
    → (k : ℕ) → k < n → p k ≡ false → q k ≡ true → counted p n < counted q n
counted-less p q zero f k h a b = absurd (omega arith)
counted-less p q (suc n) f k h a b = go (ℕ_discrete k n) (counted-less p q n (λ i l. f i (omega arith)) k)
  where
    go : Dec (k ≡ n) → (k < n → p k ≡ false → q k ≡ true → counted p n < counted q n) → counted p (suc n) < counted q (suc n)
    go (yes e) earlier =
        let below = counted-le p q n (λ i l. f i (omega arith)) in
        rw (rw e at a, rw e at b) (omega arith)
    go (no e) earlier = step_less (p n) (q n) (earlier (omega arith) a b) (f n (omega arith))

-- ---- a strict order: r i k says that k comes after i

module _ (r : ℕ → ℕ → Bool) (n : ℕ) (self : (i : ℕ) → i < n → r i i ≡ false)
    (trans : (i j k : ℕ) → i < n → j < n → k < n → r i j ≡ true → r j k ≡ true → r i k ≡ true) where
  pub counted-after : (i k : ℕ) → i < n → k < n → r i k ≡ true → counted (r k) n < counted (r i) n
  counted-after i k h l e = counted-less (r k) (r i) n (λ j m f. trans i k j h l m e f) k l (self k l) e

  walk : (fuel i : ℕ) → i < n → counted (r i) n < fuel → (j : ℕ) × (j < n) × ((k : ℕ) → k < n → r j k ≡ false)
  walk zero i h f = absurd (omega arith)
  walk (suc fuel) i h f = go (some (r i) n) refl (walk fuel)
    where
      go : (b : Bool) → some (r i) n ≡ b
          → ((j : ℕ) → j < n → counted (r j) n < fuel → (j : ℕ) × (j < n) × ((k : ℕ) → k < n → r j k ≡ false))
          → (j : ℕ) × (j < n) × ((k : ℕ) → k < n → r j k ≡ false)
      go false e further = (i, h, some-none (r i) n e)
      go true e further =
          let (k, l, after) = some-witness (r i) n e in
          let fewer = counted-after i k h l after in
          further k l (omega arith)

  pub last_of : 0 < n → (j : ℕ) × (j < n) × ((k : ℕ) → k < n → r j k ≡ false)
  last_of h = walk (suc (counted (r 0) n)) 0 h (omega arith)
