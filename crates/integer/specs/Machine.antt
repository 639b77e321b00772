-- Signed machine terms. Each operation reads its operands back from their bits, `to_z w (of_z w x)`; what is asked of it is that the result
-- fits, and what is known of it is its mathematical value. A term is taken apart once, by `search machine`, and both come in one line:
--     machine-fits (search machine depth 40) tt       what a goal `SFits w term` asks
--     machine-is (search machine depth 40) tt         term ≡ its value, with every reading back gone
-- The numbers in the term are hypotheses of type `Machine x`: `known e h` for a call's result x with e : x ≡ v and h : Within n v,
-- `bounded h` for h : Within n x.
use Rattle.std.specs.Prelude.{◌≡◌, refl, Bool, true, false, ◌&&◌, ℕ, suc, ◌+◌, ◌*◌, ◌^◌, ◌≤◌, ◌<◌, T, ltb, ℤ, pos, negsuc, neg_ℤ, nat_abs}
use Rattle.std.specs.Prelude.{◌+ℤ◌, ◌-ℤ◌, ◌*ℤ◌}
use Rattle.std.proofs.Common.{sym, ◌∙◌, ap, ap₂, subst, le_refl, le_trans, lt_of_le_of_lt, ltb→lt, to_z-of_z}
use Rattle.std.proofs.Math.Nat.{le-suc}
use Rattle.std.specs.Int.Signed.{mag}
use Rattle.std.specs.Int.{Width, w32}
use mir.Val.{SFits, hbits, to_z, of_z}
use Rattle.integer.specs.Bound.{Within, within-add, within-mul, within-neg}

pub record Machine (term : ℤ) : Type 0 where
  pub value : ℤ
  pub bound : ℕ
  pub within : Within bound value
  -- every reading back along the way is of a number that fits
  pub good : Bool
  pub is : T good → term ≡ value

mag-le : (z : ℤ) → mag z ≤ nat_abs z
mag-le (pos n) = le_refl n
mag-le (negsuc n) = le-suc n

pub within-fits : {w : Width} {n : ℕ} {z : ℤ} → T (ltb n (2 ^ hbits w)) → Within n z → SFits w z
within-fits {w} {n} {z} t h = record { sfits = lt_of_le_of_lt (le_trans (mag-le z) h.size) (ltb→lt n (2 ^ hbits w) t) }

both-0 : (a b : Bool) → T (a && b) → T a
both-0 true b t = tt
both-0 false b t = t

both-1 : (a b : Bool) → T (a && b) → T b
both-1 true b t = t
both-1 false b t = absurd t

-- ---- the numbers in a term

abbrev pub known : {n : ℕ} {x v : ℤ} → x ≡ v → Within n v → Machine x
known {n} {x} {v} e h = record { value = v; bound = n; within = h; good = true; is = λ t. e }

abbrev pub bounded : {n : ℕ} {x : ℤ} → Within n x → Machine x
bounded h = known refl h

-- ---- the rules that `search` takes a term apart by

abbrev pub machine-pos : (n : ℕ) → Machine (pos n)
machine-pos n = bounded (record { size = le_refl n })

abbrev pub machine-negsuc : (n : ℕ) → Machine (negsuc n)
machine-negsuc n = bounded (record { size = le_refl (suc n) })

pub read_is : (w : Width) {x : ℤ} (m : Machine x) → T (m.good && ltb m.bound (2 ^ hbits w)) → to_z w (of_z w x) ≡ m.value
read_is w m t =
    let e = m.is (both-0 m.good _ t) in
    to_z-of_z (subst (λ z. SFits w z) (sym e) (within-fits (both-1 m.good _ t) m.within)) ∙ e

abbrev pub machine-read : (w : Width) (x : ℤ) → Machine x → Machine (to_z w (of_z w x))
machine-read w x m = record {
  value = m.value;
  bound = m.bound;
  within = m.within;
  good = m.good && ltb m.bound (2 ^ hbits w);
  is = read_is w m;
}

pub both_is : (f : ℤ → ℤ → ℤ) {x y : ℤ} (p : Machine x) (q : Machine y) → T (p.good && q.good) → f x y ≡ f p.value q.value
both_is f p q t = ap₂ f (p.is (both-0 p.good _ t)) (q.is (both-1 p.good _ t))

abbrev pub machine-add : {x y : ℤ} → Machine x → Machine y → Machine (x +ℤ y)
machine-add p q = record {
  value = p.value +ℤ q.value;
  bound = p.bound + q.bound;
  within = within-add p.within q.within;
  good = p.good && q.good;
  is = both_is (λ a b. a +ℤ b) p q;
}

abbrev pub machine-mul : {x y : ℤ} → Machine x → Machine y → Machine (x *ℤ y)
machine-mul p q = record {
  value = p.value *ℤ q.value;
  bound = p.bound * q.bound;
  within = within-mul p.within q.within;
  good = p.good && q.good;
  is = both_is (λ a b. a *ℤ b) p q;
}

abbrev pub machine-neg : {x : ℤ} → Machine x → Machine (neg_ℤ x)
machine-neg p = record {
  value = neg_ℤ p.value;
  bound = p.bound;
  within = within-neg p.within;
  good = p.good;
  is = λ t. ap neg_ℤ
      (p.is t);
}

pub ruleset machine = (machine-read, machine-add, machine-mul, machine-neg, machine-pos, machine-negsuc)

-- ---- what is asked

pub machine-is : {x : ℤ} (m : Machine x) → T m.good → x ≡ m.value
machine-is m t = m.is t

pub machine-fits : {w : Width} {x : ℤ} (m : Machine x) → T (m.good && ltb m.bound (2 ^ hbits w)) → SFits w x
machine-fits {w} m t =
    subst (λ z. SFits w z) (sym (m.is (both-0 m.good _ t))) (within-fits (both-1 m.good _ t) m.within)

-- a call's result x, of which the call says that it is v, read back: `result-is w32 c.f.ok c.f.ensures`
pub result-is : (w : Width) {x v : ℤ} → mag x < 2 ^ hbits w → x ≡ v → to_z w (of_z w x) ≡ v
result-is w p e = to_z-of_z (record { sfits = p }) ∙ e

-- ---- examples

-- a difference of two small numbers of 32 bits fits, and is their difference
small-fits : (x y : ℤ) → Within 1000 x → Within 1000 y → SFits w32 (to_z w32 (of_z w32 x) -ℤ to_z w32 (of_z w32 y))
small-fits x y h k = let p = bounded h in let q = bounded k in machine-fits (search machine depth 40) tt

small_is : (x y : ℤ) → Within 1000 x → Within 1000 y → to_z w32 (of_z w32 (to_z w32 (of_z w32 x) -ℤ to_z w32 (of_z w32 y))) ≡ x -ℤ y
small_is x y h k = let p = bounded h in let q = bounded k in machine-is (search machine depth 40) tt
