-- The order of ℤ beyond what linear arithmetic knows: products of facts, proof by the contrary, tests read as facts.
--     ◌<×<◌ ◌<×≤◌ ◌≤×<◌ ◌≤×≤◌     the product of two differences of known sign, as a hint to `lia`
--     ◌≡×◌                        an equation times a number, likewise
--     square-nonneg, square-zero  a square is not below 0; only 0 has a square that is not above it
--     cancel-le, cancel           a positive factor may be dropped; `zero-factor`: from a product that is 0
--     contra< contra≤             a strict (weak) order, from the absurdity of the contrary
--     lt-or-le, compared          cases
--     weaken, le_of_eq, le_trans, le_antisym      weak orders by name, where no atom need be written
--     lt_z-true .. le_z-false       what a test that came out so says; `lt-lt_z` .. the other way
use Rattle.std.specs.Prelude.{◌≡◌, refl, Bool, true, false, not, [], ◌∷◌, ◌⊎◌, zero, suc, ◌*◌, T, ℤ, pos, negsuc, ◌+ℤ◌, ◌-ℤ◌, ◌*ℤ◌, ◌≤ℤ◌}
use Rattle.std.specs.Prelude.{◌<ℤ◌}
use Rattle.std.proofs.Common.{sym, ap, subst, inl, inr, zero-le, mul-pos, arith, T_not, le→leb, lt→ltb}
use Rattle.std.specs.Int.Signed.{le_z, lt_z, lt_z_no, clash_ℤ}
use Rattle.integer.specs.Linear.{linear, lia, ◌&◌}

-- ---- cases

by-test : (b : Bool) → T b ⊎ T (not b)
by-test true = inl tt
by-test false = inr tt

pub lt-or-le : (x y : ℤ) → (x <ℤ y) ⊎ (y ≤ℤ x)
lt-or-le x y = go (by-test (lt_z x y))
  where
    go : T (lt_z x y) ⊎ T (not (lt_z x y)) → (x <ℤ y) ⊎ (y ≤ℤ x)
    go (inl t) = inl (record { lt = t })
    go (inr t) = inr (lt_z_no t)

pub contra< : {x y : ℤ} → (y ≤ℤ x → ⊥) → x <ℤ y
contra< {x} {y} f = go (lt-or-le x y)
  where
    go : (x <ℤ y) ⊎ (y ≤ℤ x) → x <ℤ y
    go (inl h) = h
    go (inr h) = absurd (f h)

pub contra≤ : {x y : ℤ} → (y <ℤ x → ⊥) → x ≤ℤ y
contra≤ {x} {y} f = go (lt-or-le y x)
  where
    go : (y <ℤ x) ⊎ (x ≤ℤ y) → x ≤ℤ y
    go (inl h) = absurd (f h)
    go (inr h) = h

-- below, equal or above
pub data Compared (x y : ℤ) : Type 0 where
  is_below : x <ℤ y → Compared x y
  is-equal : x ≡ y → Compared x y
  is-above : y <ℤ x → Compared x y

pub compared : (x y : ℤ) → Compared x y
compared x y = go (lt-or-le x y) (lt-or-le y x)
  where
    go : (x <ℤ y) ⊎ (y ≤ℤ x) → (y <ℤ x) ⊎ (x ≤ℤ y) → Compared x y
    go (inl h) k = is_below h
    go (inr h) (inl k) = is-above k
    go (inr h) (inr k) = is-equal (lia (x ∷ y ∷ []) (h & k) (search linear depth 40) (omega arith))

-- ---- weak orders by name

pub weaken : {x y : ℤ} → x <ℤ y → x ≤ℤ y
weaken {x} {y} h = lia (x ∷ y ∷ []) h (search linear depth 40) (omega arith)

pub le_of_eq : {x y : ℤ} → x ≡ y → x ≤ℤ y
le_of_eq {x} {y} e = lia (x ∷ y ∷ []) e (search linear depth 40) (omega arith)

pub le_trans : {x y z : ℤ} → x ≤ℤ y → y ≤ℤ z → x ≤ℤ z
le_trans {x} {y} {z} h k = lia (x ∷ y ∷ z ∷ []) (h & k) (search linear depth 40) (omega arith)

pub le_antisym : {x y : ℤ} → x ≤ℤ y → y ≤ℤ x → x ≡ y
le_antisym {x} {y} h k = lia (x ∷ y ∷ []) (h & k) (search linear depth 40) (omega arith)

-- ---- products

pos-times : (x y : ℤ) → pos 0 <ℤ x → pos 0 <ℤ y → pos 0 <ℤ (x *ℤ y)
pos-times (pos zero) y h k = absurd h.lt
pos-times (pos (suc a)) (pos zero) h k = absurd k.lt
pos-times (pos (suc a)) (pos (suc b)) h k = record { lt = lt→ltb 0 (suc a * suc b) (mul-pos (omega arith) (omega arith)) }
pos-times (pos (suc a)) (negsuc b) h k = absurd k.lt
pos-times (negsuc a) y h k = absurd h.lt

nonneg-times : (x y : ℤ) → pos 0 ≤ℤ x → pos 0 ≤ℤ y → pos 0 ≤ℤ (x *ℤ y)
nonneg-times (pos a) (pos b) h k = record { le = le→leb 0 (a * b) zero-le }
nonneg-times (pos a) (negsuc b) h k = absurd k.le
nonneg-times (negsuc a) y h k = absurd h.le

gap-pos : {x y : ℤ} → x <ℤ y → pos 0 <ℤ (y -ℤ x)
gap-pos {x} {y} h = lia (x ∷ y ∷ []) h (search linear depth 40) (omega arith)

gap-nonneg : {x y : ℤ} → x ≤ℤ y → pos 0 ≤ℤ (y -ℤ x)
gap-nonneg {x} {y} h = lia (x ∷ y ∷ []) h (search linear depth 40) (omega arith)

infix 45 ◌<×<◌ ◌<×≤◌ ◌≤×<◌ ◌≤×≤◌ ◌≡×◌
pub ◌<×<◌ : {a b c d : ℤ} → a <ℤ b → c <ℤ d → pos 0 <ℤ ((b -ℤ a) *ℤ (d -ℤ c))
h <×< k = pos-times _ _ (gap-pos h) (gap-pos k)

pub ◌≤×≤◌ : {a b c d : ℤ} → a ≤ℤ b → c ≤ℤ d → pos 0 ≤ℤ ((b -ℤ a) *ℤ (d -ℤ c))
h ≤×≤ k = nonneg-times _ _ (gap-nonneg h) (gap-nonneg k)

pub ◌<×≤◌ : {a b c d : ℤ} → a <ℤ b → c ≤ℤ d → pos 0 ≤ℤ ((b -ℤ a) *ℤ (d -ℤ c))
h <×≤ k = weaken h ≤×≤ k

pub ◌≤×<◌ : {a b c d : ℤ} → a ≤ℤ b → c <ℤ d → pos 0 ≤ℤ ((b -ℤ a) *ℤ (d -ℤ c))
h ≤×< k = h ≤×≤ weaken k

pub ◌≡×◌ : {a b : ℤ} → a ≡ b → (z : ℤ) → a *ℤ z ≡ b *ℤ z
e ≡× z = ap (λ x. x *ℤ z) e

pub square-nonneg : (x : ℤ) → pos 0 ≤ℤ (x *ℤ x)
square-nonneg (pos a) = record { le = le→leb 0 (a * a) zero-le }
square-nonneg (negsuc a) = record { le = le→leb 0 (suc a * suc a) zero-le }

pub square-zero : {x : ℤ} → (x *ℤ x) ≤ℤ pos 0 → x ≡ pos 0
square-zero {x} h = le_antisym
    (contra≤ (λ g. lia (x ∷ []) (h & g <×< g) (search linear depth 40) (omega arith)))
    (contra≤ (λ g. lia (x ∷ []) (h & g <×< g) (search linear depth 40) (omega arith)))

pub cancel-le : {k x y : ℤ} → pos 0 <ℤ k → (k *ℤ x) ≤ℤ (k *ℤ y) → x ≤ℤ y
cancel-le {k} {x} {y} some h = contra≤ (λ g. lia (k ∷ x ∷ y ∷ []) (h & some <×< g) (search linear depth 40) (omega arith))

pub cancel : {k x y : ℤ} → pos 0 <ℤ k → k *ℤ x ≡ k *ℤ y → x ≡ y
cancel {k} {x} {y} some e = le_antisym (cancel-le some (le_of_eq e)) (cancel-le some (le_of_eq (sym e)))

pub zero-factor : {t z : ℤ} → pos 0 <ℤ t → t *ℤ z ≡ pos 0 → z ≡ pos 0
zero-factor {t} {z} h e = cancel {k = t} {y = pos 0} h (lia (t ∷ z ∷ []) e (search linear depth 40) (omega arith))

-- ---- tests

is_true : (b : Bool) → b ≡ true → T b
is_true true e = tt
is_true false e = subst T (sym e) tt

is_false : (b : Bool) → b ≡ false → T (not b)
is_false b e = subst (λ t. T (not t)) (sym e) tt

true_of : (b : Bool) → T b → b ≡ true
true_of true t = refl
true_of false t = absurd t

false_of : (b : Bool) → (T b → ⊥) → b ≡ false
false_of true f = absurd (f tt)
false_of false f = refl

module _ {x y : ℤ} where
  pub lt_z-true : lt_z x y ≡ true → x <ℤ y
  lt_z-true e = record { lt = is_true (lt_z x y) e }

  pub lt_z-false : lt_z x y ≡ false → y ≤ℤ x
  lt_z-false e = lt_z_no (is_false (lt_z x y) e)

  pub le_z-true : le_z x y ≡ true → x ≤ℤ y
  le_z-true e = record { le = is_true (le_z x y) e }

  pub le_z-false : le_z x y ≡ false → y <ℤ x
  le_z-false e = contra< (λ h. T_not (le_z x y) (is_false (le_z x y) e) h.le)

  pub lt-lt_z : x <ℤ y → lt_z x y ≡ true
  lt-lt_z h = true_of (lt_z x y) h.lt

  pub le-lt_z : y ≤ℤ x → lt_z x y ≡ false
  le-lt_z h = false_of (lt_z x y) (λ t. clash_ℤ (record { lt = t }) h)

  pub le-le_z : x ≤ℤ y → le_z x y ≡ true
  le-le_z h = true_of (le_z x y) h.le

  pub lt-le_z : y <ℤ x → le_z x y ≡ false
  lt-le_z h = false_of (le_z x y) (λ t. clash_ℤ h (record { le = t }))

-- ---- examples

-- the product of two facts makes a goal linear
grows : (x y : ℤ) → pos 1 <ℤ x → pos 1 <ℤ y → (x +ℤ y) <ℤ (x *ℤ y +ℤ pos 1)
grows x y h k = lia (x ∷ y ∷ []) (h <×< k) (search linear depth 40) (omega arith)
