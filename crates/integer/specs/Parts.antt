-- An integer as a difference of two naturals, which is how linear arithmetic reads it.
--     above z, below z    the naturals by which z is above and below 0; one of them is 0
--     Differs z a b       z is a - b
-- How it goes through the operations (`differs-add`, `-neg`, `-scale`), and what it says of the order (`le_parts`, `lt-parts`, `eq-parts`).
use Rattle.std.specs.Prelude.{◌≡◌, refl, Bool, true, false, cond, ℕ, zero, suc, ◌+◌, ◌*◌, ◌-◌, ◌≤◌, ◌<◌, T, ltb, ℤ, pos, negsuc, neg_ℤ}
use Rattle.std.specs.Prelude.{◌+ℤ◌, ◌*ℤ◌, ◌≤ℤ◌, ◌<ℤ◌}
use Rattle.std.proofs.Common.{sym, ap, subst, arith, ltb-true, ltb-false, leb→le, le→leb, ltb→lt, lt→ltb}
use Rattle.std.proofs.Math.IntN.{sub_ℕ}
use Rattle.std.specs.Int.Signed.{le_z, lt_z}
use Rattle.integer.specs.Laws.{negℤ-*ℤ}

abbrev pub above : ℤ → ℕ
above (pos n) = n
above (negsuc n) = 0

abbrev pub below : ℤ → ℕ
below (pos n) = 0
below (negsuc n) = suc n

pub record Differs (z : ℤ) (a b : ℕ) : Type 0 where
  pub same : above z + b ≡ below z + a

pub differs-own : (z : ℤ) → Differs z (above z) (below z)
differs-own (pos n) = record { same = omega arith }
differs-own (negsuc n) = record { same = omega arith }

differs-sub : (a b : ℕ) → Differs (sub_ℕ a b) a b
differs-sub a b = go (ltb a b) refl
  where
    go : (t : Bool) → ltb a b ≡ t → Differs (cond t (negsuc (b - suc a)) (pos (a - b))) a b
    go true e = let h : a < b = ltb-true a b e in record { same = omega arith }
    go false e = let h : b ≤ a = ltb-false a b e in record { same = omega arith }

-- the parts of a sum of two integers, up to what they have in common
sum-parts : (x y : ℤ) → Differs (x +ℤ y) (above x + above y) (below x + below y)
sum-parts (pos a) (pos b) = record { same = omega arith }
sum-parts (pos a) (negsuc b) = record { same = let h = (differs-sub a (suc b)).same in omega arith }
sum-parts (negsuc a) (pos b) = record { same = let h = (differs-sub b (suc a)).same in omega arith }
sum-parts (negsuc a) (negsuc b) = record { same = omega arith }

pub differs-add : {x y : ℤ} {a b c d : ℕ} → Differs x a b → Differs y c d → Differs (x +ℤ y) (a + c) (b + d)
differs-add {x} {y} p q = record { same = omega (arith, (sum-parts x y).same, p.same, q.same) }

pub differs-neg : {x : ℤ} {a b : ℕ} → Differs x a b → Differs (neg_ℤ x) b a
differs-neg {x} {a} {b} p = record { same = go x p.same }
  where
    go : (x : ℤ) → above x + b ≡ below x + a → above (neg_ℤ x) + a ≡ below (neg_ℤ x) + b
    go (pos zero) h = omega arith
    go (pos (suc n)) h = omega arith
    go (negsuc n) h = omega arith

negated : (k : ℕ) → Differs (neg_ℤ (pos k)) 0 k
negated zero = record { same = refl }
negated (suc k) = record { same = omega arith }

pub differs-scale : (n : ℕ) {x : ℤ} {a b : ℕ} → Differs x a b → Differs (pos n *ℤ x) (n * a) (n * b)
differs-scale n {x} {a} {b} p = record { same = go x p.same }
  where
    go : (x : ℤ) → above x + b ≡ below x + a → above (pos n *ℤ x) + n * b ≡ below (pos n *ℤ x) + n * a
    go (pos m) h = omega (arith, ap (λ k. n * k) h)
    go (negsuc m) h = omega (arith, ap (λ k. n * k) h, (negated (n * suc m)).same)

pub differs-scale-neg : (n : ℕ) {x : ℤ} {a b : ℕ} → Differs x a b → Differs (negsuc n *ℤ x) (suc n * b) (suc n * a)
differs-scale-neg n {x} {a} {b} p = subst (λ z. Differs z (suc n * b) (suc n * a)) (sym (negℤ-*ℤ (pos (suc n)) x))
    (differs-neg (differs-scale (suc n) p))

-- ---- the order, read off the parts

le-own : (x y : ℤ) → T (le_z x y) → above x + below y ≤ above y + below x
le-own (pos a) (pos b) t = let h = leb→le a b t in omega arith
le-own (pos a) (negsuc b) t = absurd t
le-own (negsuc a) (pos b) t = omega arith
le-own (negsuc a) (negsuc b) t = let h = leb→le b a t in omega arith

own-le : (x y : ℤ) → above x + below y ≤ above y + below x → T (le_z x y)
own-le (pos a) (pos b) h = le→leb a b (omega arith)
own-le (pos a) (negsuc b) h = let z : a + suc b ≤ 0 = omega arith in absurd (let f : ⊥ = omega arith in f)
own-le (negsuc a) (pos b) h = tt
own-le (negsuc a) (negsuc b) h = le→leb b a (omega arith)

lt-own : (x y : ℤ) → T (lt_z x y) → above x + below y < above y + below x
lt-own (pos a) (pos b) t = let h = ltb→lt a b t in omega arith
lt-own (pos a) (negsuc b) t = absurd t
lt-own (negsuc a) (pos b) t = omega arith
lt-own (negsuc a) (negsuc b) t = let h = ltb→lt b a t in omega arith

own-lt : (x y : ℤ) → above x + below y < above y + below x → T (lt_z x y)
own-lt (pos a) (pos b) h = lt→ltb a b (omega arith)
own-lt (pos a) (negsuc b) h = absurd (let f : ⊥ = omega arith in f)
own-lt (negsuc a) (pos b) h = tt
own-lt (negsuc a) (negsuc b) h = lt→ltb b a (omega arith)

own_eq : (x y : ℤ) → above x + below y ≡ above y + below x → x ≡ y
own_eq (pos a) (pos b) h = ap pos (omega arith)
own_eq (pos a) (negsuc b) h = absurd (let f : ⊥ = omega arith in f)
own_eq (negsuc a) (pos b) h = absurd (let f : ⊥ = omega arith in f)
own_eq (negsuc a) (negsuc b) h = ap negsuc (omega arith)

module _ {x y : ℤ} {a b c d : ℕ} (p : Differs x a b) (q : Differs y c d) where
  pub le_parts : x ≤ℤ y → a + d ≤ c + b
  le_parts h = omega (arith, p.same, q.same, le-own x y h.le)

  pub parts-le : a + d ≤ c + b → x ≤ℤ y
  parts-le h = record { le = own-le x y (omega (arith, p.same, q.same)) }

  pub lt-parts : x <ℤ y → a + d < c + b
  lt-parts h = omega (arith, p.same, q.same, lt-own x y h.lt)

  pub parts-lt : a + d < c + b → x <ℤ y
  parts-lt h = record { lt = own-lt x y (omega (arith, p.same, q.same)) }

  pub eq-parts : x ≡ y → a + d ≡ c + b
  eq-parts h = omega (arith, p.same, q.same, ap above h, ap below h)

  pub parts-eq : a + d ≡ c + b → x ≡ y
  parts-eq h = own_eq x y (omega (arith, p.same, q.same))
