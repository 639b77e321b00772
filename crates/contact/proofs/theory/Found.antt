-- What the code's searches find.
--     gcd-step                     one of Euclid's steps
--     lowest-words                 lowest terms, of two words
--     Spanned n q low high         low is reached, and high + 1 is not
--     spanned-start, -down, -up, -end     the moves of the loop; a test asks whether n < q·(m·m)
use Rattle.std.specs.Prelude.{◌≡◌, refl, true, false, ℕ, ◌+◌, ◌-◌, ◌*◌, ◌/◌, ◌%◌, ◌≤◌, ◌<◌, ltb, pos}
use Rattle.std.proofs.Common.{sym, mul-le-mul, mul-le-mul_left, mul-le-mul_right, mul_comm, mul-pos, arith, ltb-true, ltb-false}
use Rattle.std.proofs.Math.Nat.{dvd-mod_iff}
use Rattle.divisor.specs.Divisor.{gcd, Gcd}
use Rattle.divisor.specs.Euclid.{gcd-is, gcd-unique}
use Rattle.plane.specs.Primitive.{primitive}
use Rattle.plane.specs.Measure.{root_below}
use Rattle.plane.specs.Distance.{over}
use Rattle.measure.specs.theory.Rounded.{rounded-unique}
use Rattle.motion.specs.Contact.{lowest}

-- ---- lowest terms

pub gcd-step : (a b : ℕ) → gcd b (a % b) ≡ gcd a b
gcd-step a b = gcd-unique (remainder (gcd-is b (a % b))) (gcd-is a b)
  where
    remainder : {g : ℕ} → Gcd b (a % b) g → Gcd a b g
    remainder {g} p = record {
      divides-left = (dvd-mod_iff g p.divides-left).0 p.divides-right;
      divides-right = p.divides-left;
      greatest = λ k h l. p.greatest k l ((dvd-mod_iff k l).1 h);
    }

pub lowest-words : (n d : ℕ) → over (pos (n / gcd n d)) (pos (d / gcd n d)) ≡ lowest (over (pos n) (pos d))
unfolding lowest primitive
lowest-words n d = refl

-- ---- the root

pub record Spanned (n q low high : ℕ) : Type 0 where
  pub ordered : low ≤ high
  pub below : high ≤ 4_194_304
  pub reached : low * low * q ≤ n
  pub next-above : n < (high + 1) * (high + 1) * q

pub spanned-start : (n d l : ℕ) → n ≤ d → 0 < d → l < 17_592_186_044_416 → Spanned (n * n * l) (d * d) 0 4_194_304
spanned-start n d l h some short = record {
  ordered = omega arith;
  below = omega arith;
  reached = omega arith;
  next-above = omega (arith, mul-le-mul_right l (mul-le-mul h h), product, mul-pos some some);
}
  where
    most : l ≤ 17_592_186_044_416
    most = omega arith

    product : d * d * l ≤ d * d * 17_592_186_044_416
    product = mul-le-mul_left (d * d) most

module _ {n q : ℕ} where
  pub spanned-down : {low high : ℕ} (m : ℕ) → Spanned n q low high → low < m → m ≤ high → ltb n (q * (m * m)) ≡ true
      → Spanned n q low (m - 1)
  spanned-down m b l h e =
      let back : m - 1 + 1 ≡ m = omega arith in
      record {
        ordered = omega arith;
        below = omega (arith, b.below);
        reached = b.reached;
        next-above = rw (back, mul_comm (m * m) q) (ltb-true n (q * (m * m)) e);
      }

  pub spanned-up : {low high : ℕ} (m : ℕ) → Spanned n q low high → m ≤ high → ltb n (q * (m * m)) ≡ false → Spanned n q m high
  spanned-up m b l e =
      record { ordered = l; below = b.below; reached = rw (mul_comm (m * m) q) (ltb-false n (q * (m * m)) e); next-above = b.next-above }

  pub spanned-end : {low high : ℕ} → 0 < q → Spanned n q low high → high ≤ low → low ≡ root_below n q
  spanned-end {low} {high} some b h =
      let same : low ≡ high = omega (arith, b.ordered) in
      sym (rounded-unique n q some low b.reached (rw same b.next-above))
