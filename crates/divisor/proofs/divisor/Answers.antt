-- `divisor` meets its contract: a number without its factors of two is odd, and the factors that both had are given back.
use mathlib.Core.Path.{sym, ◌∙◌, ap}
use Prim.Native.Nat.{ℕ, ◌*◌, ◌%◌, ◌^◌, ◌<◌, ◌≤◌, min}
use Rattle.std.specs.Prelude.{◌≡◌, refl, Bool, true, false, nat_lt}
use Rattle.std.proofs.Common.{ltb-true, ltb-false}
use native.Mathlib.Omega.{arith}
use lib.Count.{count_trailing_zeros}
use Rattle.divisor.specs.Divisor.{gcd}
use Rattle.divisor.specs.Euclid.{gcd-comm, gcd-zero}
use Rattle.divisor.specs.Halving.{Factors, trailing-fits, trailing-factors, gcd-shifted}
use Rattle.divisor.proofs.divisor.Goals as goal
use Rattle.divisor.proofs.divisor.Goals.{After-strip-2, Else-b-eq0}

pub returns-then-a-eq0 : goal.returns-then-a-eq0
returns-then-a-eq0 c =
    let args = c.args in
    sym (ap (λ z. gcd z args.b) c.if-a-eq0.true ∙ gcd-comm 0 args.b ∙ gcd-zero args.b)

pub returns-then-b-eq0 : goal.returns-then-b-eq0
returns-then-b-eq0 c = let args = c.args in sym (ap (gcd args.a) c.if-b-eq0.true ∙ gcd-zero args.a)

-- the counts of zeros of numbers other than 0
zeros-fit : (c : Else-b-eq0) → let args = c.args in (count_trailing_zeros 32 args.a < 32) × (count_trailing_zeros 32 args.b < 32)
zeros-fit c =
    (trailing-fits 32 _ (omega arith) c.ranges.a.fits, trailing-fits 32 _ (omega arith) c.ranges.b.fits)

-- what is left of either number
left : (c : After-strip-2) → let a = c.args.a in
    Factors a (count_trailing_zeros 32 a) c.strip.result
left c = trailing-factors 32 _ (omega arith) c.ranges.a.fits c.strip.ensures

right : (c : After-strip-2) → let b = c.args.b in
    Factors b (count_trailing_zeros 32 b) c.strip-2.result
right c = trailing-factors 32 _ (omega arith) c.ranges.b.fits c.strip-2.ensures

-- the fewer factors are those that both have
given-back : {a b s t m x y : ℕ} → Factors a s x → Factors b t y → m ≡ min s t → 0 < a → 0 < b → a < 2 ^ 32 → b < 2 ^ 32
    → gcd x y * 2 ^ m % 2 ^ 32 ≡ gcd a b
given-back {a} {b} {s} {t} {m} {x} {y} f g e pa pb ha hb = go (nat_lt t s) refl
  where
    go : (r : Bool) → nat_lt t s ≡ r → gcd x y * 2 ^ m % 2 ^ 32 ≡ gcd a b
    go false k =
        let h : s ≤ t = ltb-false t s k in
        let same : m ≡ s = omega (arith, e) in
        ap (λ z. gcd x y * 2 ^ z % 2 ^ 32) same ∙ gcd-shifted 32 f g h pa ha
    go true k =
        let h : t ≤ s = omega (arith, ltb-true t s k) in
        let same : m ≡ t = omega (arith, e) in
        ap (λ z. gcd x y * 2 ^ z % 2 ^ 32) same ∙ ap (λ z. z * 2 ^ t % 2 ^ 32) (gcd-comm x y) ∙ gcd-shifted 32 g f h pb hb ∙ gcd-comm b a

pub odd_divisor-odd-requires : goal.odd_divisor-odd-requires
odd_divisor-odd-requires c = record { odd = ((left c).odd, (right c).odd) }

pub returns : goal.returns
returns c =
    let at = (goal.at.returns c).After-strip-2 in
    ap (λ z. z * 2 ^ c.min.result % 2 ^ 32) c.odd_divisor-odd.ensures
    ∙ given-back (left at) (right at) c.min.ensures (omega arith) (omega arith) c.ranges.a.fits c.ranges.b.fits
