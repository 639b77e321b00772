-- Two fractions of the same size, a / b and c / d with a · d = c · b, are whole together and have the same whole part.
--     zero_same    over positive factors, one is 0 exactly if the other is
--     whole_same, part_same
use Rattle.std.specs.Prelude.{◌≡◌, ℕ, zero, suc, ◌+◌, ◌*◌, ◌/◌, ◌%◌, ◌<◌, ◌==◌, refl}
use Rattle.std.proofs.Common.{sym, ap, ◌∙◌, mul-pos, mul_right_comm, add-mul, zero-mul, arith, ne_eqb}
use Rattle.std.proofs.Math.Nat.{mod-add-div'}
use Rattle.std.specs.Float.Ieee.Nearest.{div_same}

pub zero_same : (a b c d : ℕ) → 0 < c → 0 < d → a * c ≡ b * d → (a == 0) ≡ (b == 0)
zero_same zero zero c d C D h = refl
zero_same zero (suc b) c d C D h =
    let p : 0 < suc b * d = mul-pos (omega arith) D in
    let z : zero * c ≡ 0 = zero-mul c in
    absurd (let k : ⊥ = omega arith in k)
zero_same (suc a) zero c d C D h =
    let p : 0 < suc a * c = mul-pos (omega arith) C in
    let z : zero * d ≡ 0 = zero-mul d in
    absurd (let k : ⊥ = omega arith in k)
zero_same (suc a) (suc b) c d C D h =
    ne_eqb (suc a) 0 (λ e. let k : ⊥ = omega arith in k)
    ∙ sym (ne_eqb (suc b) 0 (λ e. let k : ⊥ = omega arith in k))

pub part_same : (a b c d : ℕ) → 0 < b → 0 < d → a * d ≡ c * b → a / b ≡ c / d
part_same = div_same

cancelled : (r s x y ad cb : ℕ) → r + x ≡ ad → s + y ≡ cb → ad ≡ cb → x ≡ y → r ≡ s
cancelled r s x y ad cb h k e q = omega arith

rest-same : (a b c d : ℕ) → 0 < b → 0 < d → a * d ≡ c * b → a % b * d ≡ c % d * b
rest-same a b c d B D h =
    cancelled (a % b * d) (c % d * b) (a / b * b * d) (c / d * d * b) (a * d) (c * b)
    (sym (add-mul (a % b) (a / b * b) d) ∙ ap (λ (z : ℕ). z * d) (mod-add-div' a b))
    (sym (add-mul (c % d) (c / d * d) b) ∙ ap (λ (z : ℕ). z * b) (mod-add-div' c d))
    h
    (ap (λ (q : ℕ). q * b * d) (part_same a b c d B D h) ∙ mul_right_comm (c / d) b d)

pub whole_same : (a b c d : ℕ) → 0 < b → 0 < d → a * d ≡ c * b → (a % b == 0) ≡ (c % d == 0)
whole_same a b c d B D h = zero_same (a % b) (c % d) d b D B (rest-same a b c d B D h)
