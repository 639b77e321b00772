-- Positions on the way round n corners: the last goes to the first.
--     Following n e, following     the position after e, by cases
--     next-end, next-on            it is 0 after the last, and else one more
--     next-below                   it is a position
--     preceding                    every position comes after one
--     two_steps                    of three or more corners, two steps on lead to a third
--     one-or-next                  of at most two, each is one or the one after it
use Rattle.std.specs.Prelude.{◌≡◌, refl, Bool, true, false, ◌⊎◌, ℕ, zero, suc, pred, ◌+◌, ◌≤◌, ◌<◌, eqb}
use Rattle.std.proofs.Common.{inl, inr, add-one, arith, eqb-true, eq-eqb, ne_eqb}
use Rattle.std.proofs.Math.Decide.{ℕ_discrete}
use Rattle.std.proofs.lemmas.Bool.{eqb-false}
use Rattle.plane.specs.Shape.{next}

pub next-end : (n e : ℕ) → e + 1 ≡ n → next n e ≡ 0
next-end n e h = rw (eq-eqb (e + 1) n h)

pub next-on : (n e : ℕ) → (e + 1 ≡ n → ⊥) → next n e ≡ e + 1
next-on n e h = rw (ne_eqb (e + 1) n h)

pub data Following (n e : ℕ) : Type 0 where
  onward : suc e < n → next n e ≡ suc e → Following n e
  closing : suc e ≡ n → next n e ≡ 0 → Following n e

pub following : (n e : ℕ) → e < n → Following n e
following n e h = go (eqb (e + 1) n) refl
  where
    go : (t : Bool) → eqb (e + 1) n ≡ t → Following n e
    go true q = closing (omega (arith, eqb-true (e + 1) n q)) (rw q)
    go false q = onward (omega (arith, eqb-false (e + 1) n q)) (rw (q, add-one))

pub next-below : (n e : ℕ) → e < n → next n e < n
next-below n e h = go (following n e h)
  where
    go : Following n e → next n e < n
    go (onward k q) = omega arith
    go (closing k q) = omega arith

-- the position before i
pub preceding : (n i : ℕ) → i < n → (j : ℕ) × (j < n) × (next n j ≡ i)
preceding n zero h = (pred n, omega arith, go (following n (pred n) (omega arith)))
  where
    go : Following n (pred n) → next n (pred n) ≡ 0
    go (onward k q) = absurd (omega arith)
    go (closing k q) = q
preceding n (suc j) h = (j, omega arith, go (following n j (omega arith)))
  where
    go : Following n j → next n j ≡ suc j
    go (onward k q) = q
    go (closing k q) = absurd (omega arith)

pub two_steps : (n i : ℕ) → 2 < n → i < n → (next n (next n i) ≡ i → ⊥) × (next n (next n i) ≡ next n i → ⊥)
two_steps n i h k = go (following n i k) (following n (next n i) (next-below n i k))
  where
    go : Following n i → Following n (next n i) → (next n (next n i) ≡ i → ⊥) × (next n (next n i) ≡ next n i → ⊥)
    go (onward k p) (onward l q) = ((λ r. omega arith), (λ r. omega arith))
    go (onward k p) (closing l q) = ((λ r. omega arith), (λ r. omega arith))
    go (closing k p) (onward l q) = ((λ r. omega arith), (λ r. omega arith))
    go (closing k p) (closing l q) = ((λ r. omega arith), (λ r. omega arith))

pub one-or-next : (n k i : ℕ) → n ≤ 2 → k < n → i < n → (i ≡ k) ⊎ (i ≡ next n k)
one-or-next n k i few h l = go (ℕ_discrete i k) (following n k h)
  where
    go : Dec (i ≡ k) → Following n k → (i ≡ k) ⊎ (i ≡ next n k)
    go (yes e) f = inl e
    go (no e) (onward m q) = inr (omega arith)
    go (no e) (closing m q) = inr (omega arith)
