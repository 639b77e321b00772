-- What a search says, and the invariant of a loop that makes it.
--     first-le, first-true, first-least      `first p n` is at most n; below n the test passes there; before it nowhere
--     first-unique                           these three say which number it is
--     first-at-most                          it is at most any number at which the test passes
--     first-agree                            tests that agree find the same number
--     Sought p n i                           the search has come to i and found nothing
--     sought-start, -more, -found, -none     the moves of the loop  while i < n { if p(i) { found } i += 1 }
--     sought-yes, sought-no                  its ends, where only whether there is such a number is asked
--     some-here, some-witness, none-some, some-none      `some p n`, exactly if the test passes at a number below n
--     some-found                             then `first p n` is one of them
--     all-every, every-all, not-every        `every p n`, exactly if it passes at all of them
--     true-not-false, tests_agree            a test is not both; two tests that pass together are equal
--     either-false                           where not one of two tests passes, neither does
use Rattle.std.specs.Prelude.{◌≡◌, refl, Bool, true, false, ◌||◌, ℕ, zero, suc, ◌+◌, ◌≤◌, ◌<◌, ltb}
use Rattle.std.proofs.Common.{sym, ◌∙◌, ap, true≢false, zero-le, arith, le_of_suc-le-suc, below_more, ltb-true, ltb-false}
use Rattle.std.proofs.Math.Bool.{and-eq-true_iff}
use Rattle.std.proofs.lemmas.Bool.{false≢true}
use Rattle.plane.specs.Search.{some, every, first}

pub true-not-false {ℓ} : {X : Type ℓ} {b : Bool} → b ≡ true → b ≡ false → X
true-not-false {b = true} p q = absurd (let z : ◌≡◌ {A = ℕ} 0 1 = cc in let f : ⊥ = omega arith in f)
true-not-false {b = false} p q = absurd (let z : ◌≡◌ {A = ℕ} 0 1 = cc in let f : ⊥ = omega arith in f)

-- two tests that pass together are equal
pub tests_agree : (s t : Bool) → (s ≡ true → t ≡ true) → (t ≡ true → s ≡ true) → s ≡ t
tests_agree true t f g = sym (f refl)
tests_agree false true f g = g refl
tests_agree false false f g = refl

pub either-false : (a b : Bool) → (a || b) ≡ false → (a ≡ false) × (b ≡ false)
either-false true b h = absurd (true≢false h)
either-false false b h = (refl, h)

-- the first step of a search: found at 0, or one further than the search from 1 on
first-suc : (p : ℕ → Bool) (n : ℕ) (P : ℕ → Type 0) → (p 0 ≡ true → P 0)
    → (p 0 ≡ false → P (suc (first (λ i. p (suc i)) n))) → P (first p (suc n))
first-suc p n P f g = go (p 0) f g
  where
    go : (b : Bool) → (b ≡ true → P 0) → (b ≡ false → P (suc (first (λ i. p (suc i)) n)))
        → P (elim b [ true ↦ 0 | false ↦ suc (first (λ i. p (suc i)) n) ])
    go true f g = f refl
    go false f g = g refl

pub first-le : (p : ℕ → Bool) (n : ℕ) → first p n ≤ n
first-le p zero = zero-le
first-le p (suc n) = let h = first-le (λ i. p (suc i)) n in first-suc p n (λ k. k ≤ suc n) (λ e. omega arith) (λ e. omega arith)

pub first-true : (p : ℕ → Bool) (n : ℕ) → first p n < n → p (first p n) ≡ true
first-true p zero h = let f : ⊥ = omega arith in absurd f
first-true p (suc n) h =
    first-suc p n (λ k. k < suc n → p k ≡ true) (λ e q. e) (λ e q. first-true (λ i. p (suc i)) n (le_of_suc-le-suc q)) h

pub first-least : (p : ℕ → Bool) (n k : ℕ) → k < first p n → p k ≡ false
first-least p zero k h = let f : ⊥ = omega arith in absurd f
first-least p (suc n) zero h = first-suc p n (λ j. 0 < j → p 0 ≡ false) (λ e q. let f : ⊥ = omega arith in absurd f) (λ e q. e) h
first-least p (suc n) (suc k) h =
    first-suc p n (λ j. suc k < j → p (suc k) ≡ false) (λ e q. let f : ⊥ = omega arith in absurd f)
    (λ e q. first-least (λ i. p (suc i)) n k (le_of_suc-le-suc q)) h

-- the least number at which the test passes is the only one before which it does not
pub first-unique : (p : ℕ → Bool) (n i : ℕ) → i ≤ n → (i < n → p i ≡ true) → ((k : ℕ) → k < i → p k ≡ false) → first p n ≡ i
first-unique p zero i h t f = omega arith
first-unique p (suc n) zero h t f =
    first-suc p n (λ j. j ≡ 0) (λ e. refl) (λ e. true-not-false (t (omega arith)) e)
first-unique p (suc n) (suc i) h t f =
    first-suc p n (λ j. j ≡ suc i) (λ e. true-not-false e (f 0 (omega arith)))
    (λ e. ap suc (first-unique (λ j. p (suc j)) n i (le_of_suc-le-suc h) (λ q. t (omega arith)) (λ k q. f (suc k) (omega arith))))

pub first-at-most : (p : ℕ → Bool) (n i : ℕ) → p i ≡ true → first p n ≤ i
first-at-most p n i h = go (ltb i (first p n)) refl
  where
    go : (b : Bool) → ltb i (first p n) ≡ b → first p n ≤ i
    go true e = true-not-false h (first-least p n i (ltb-true i (first p n) e))
    go false e = ltb-false i (first p n) e

pub first-agree : (p q : ℕ → Bool) (n : ℕ) → ((i : ℕ) → p i ≡ q i) → first p n ≡ first q n
first-agree p q n f = first-unique p n (first q n) (first-le q n) (λ h. f (first q n) ∙ first-true q n h)
    (λ k h. f k ∙ first-least q n k h)

-- ---- whether there is such a number

pub some-witness : (p : ℕ → Bool) (n : ℕ) → some p n ≡ true → (i : ℕ) × (i < n) × (p i ≡ true)
some-witness p zero h = absurd (false≢true h)
some-witness p (suc n) h = go (some p n) refl h (some-witness p n)
  where
    go : (t : Bool) → some p n ≡ t → (t || p n) ≡ true → (some p n ≡ true → (i : ℕ) × (i < n) × (p i ≡ true))
        → (i : ℕ) × (i < suc n) × (p i ≡ true)
    go true e k earlier = let r = earlier e in (r.0, omega (arith, r.1), r.2)
    go false e k earlier = (n, omega arith, k)

pub some-none : (p : ℕ → Bool) (n : ℕ) → some p n ≡ false → (i : ℕ) → i < n → p i ≡ false
some-none p zero h i l = absurd (omega arith)
some-none p (suc n) h i l =
    let tests = either-false (some p n) (p n) h in below_more (λ k. p k ≡ false) n (some-none p n tests.0) tests.1 i (omega arith)

pub none-some : (p : ℕ → Bool) (n : ℕ) → ((i : ℕ) → i < n → p i ≡ false) → some p n ≡ false
none-some p zero f = refl
none-some p (suc n) f = rw (none-some p n (λ i l. f i (omega arith))) (f n (omega arith))

pub some-here : (p : ℕ → Bool) (n i : ℕ) → i < n → p i ≡ true → some p n ≡ true
some-here p n i l e = go (some p n) refl
  where
    go : (t : Bool) → some p n ≡ t → t ≡ true
    go true h = refl
    go false h = true-not-false e (some-none p n h i l)

-- then the search finds it
pub some-found : (p : ℕ → Bool) (n : ℕ) → some p n ≡ true → first p n < n
some-found p n h = let r = some-witness p n h in omega (arith, first-at-most p n r.0 r.2, r.1)

-- ---- whether it passes at all of them

pub every-all : (p : ℕ → Bool) (n : ℕ) → every p n ≡ true → (i : ℕ) → i < n → p i ≡ true
every-all p zero h i l = absurd (omega arith)
every-all p (suc n) h i l =
    let tests = (and-eq-true_iff (every p n) (p n)).0 h in
    below_more (λ k. p k ≡ true) n (every-all p n tests.0) tests.1 i (omega arith)

pub all-every : (p : ℕ → Bool) (n : ℕ) → ((i : ℕ) → i < n → p i ≡ true) → every p n ≡ true
all-every p zero f = refl
all-every p (suc n) f = rw (all-every p n (λ i l. f i (omega arith))) (f n (omega arith))

pub not-every : (p : ℕ → Bool) (n i : ℕ) → i < n → p i ≡ false → every p n ≡ false
not-every p n i l e = go (every p n) refl
  where
    go : (t : Bool) → every p n ≡ t → t ≡ false
    go true h = true-not-false (every-all p n h i l) e
    go false h = refl

-- ---- a loop that searches

pub record Sought (p : ℕ → Bool) (n i : ℕ) : Type 0 where
  pub within : i ≤ n
  pub none : (k : ℕ) → k < i → p k ≡ false

module _ (p : ℕ → Bool) (n : ℕ) where
  pub sought-start : Sought p n 0
  sought-start = record { within = zero-le; none = λ k h. let f : ⊥ = omega arith in absurd f }

  pub sought-more : (i : ℕ) → Sought p n i → i < n → p i ≡ false → Sought p n (i + 1)
  sought-more i s h e = record { within = omega arith; none = below_more (λ k. p k ≡ false) i s.none e }

  pub sought-found : (i : ℕ) → Sought p n i → i < n → p i ≡ true → first p n ≡ i
  sought-found i s h e = first-unique p n i s.within (λ q. e) s.none

  pub sought-none : (i : ℕ) → Sought p n i → n ≤ i → first p n ≡ n
  sought-none i s h = first-unique p n i s.within (λ q. let f : ⊥ = omega arith in absurd f) s.none ∙ omega (arith, s.within)

  -- the search as a test: whether there is such a number
  pub sought-yes : (i : ℕ) → i < n → p i ≡ true → some p n ≡ true
  sought-yes i h e = some-here p n i h e

  pub sought-no : (i : ℕ) → Sought p n i → n ≤ i → some p n ≡ false
  sought-no i s h = none-some p n (λ k l. s.none k (omega arith))
