-- Fractions t·t/q over positions, compared by products as the tests of width and box compare them.
--     fraction-trans                   s/p ≤ t/q and t/q ≤ u/r give s/p ≤ u/r
--     squares-refl, -total, -trans     the test is a total order
--     squares-numbers                  the test as it is made on numbers of ℕ
use Rattle.std.specs.Prelude.{◌≡◌, refl, Bool, true, false, not, [], ◌∷◌, ℕ, ◌*◌, leb, ltb, ℤ, pos, ◌*ℤ◌, ◌≤ℤ◌, ◌<ℤ◌}
use Rattle.std.proofs.Common.{arith, le-leb, ltb-true, ltb-false}
use Rattle.std.proofs.lemmas.Bool.{lt-leb}
use Rattle.std.specs.Int.Signed.{≤ℤ_refl, le_z}
use Rattle.integer.specs.Linear.{lia, linear, ◌&◌}
use Rattle.integer.specs.Order.{◌<×<◌, ◌≤×<◌, contra≤, weaken, le_z-true, le_z-false, le-le_z}

-- bring all to the denominator p·q·r
pub fraction-trans : (s t u p q r : ℤ) → pos 0 <ℤ p → pos 0 <ℤ q → pos 0 <ℤ r → (s *ℤ q) ≤ℤ (t *ℤ p) → (t *ℤ r) ≤ℤ (u *ℤ q)
    → (s *ℤ r) ≤ℤ (u *ℤ p)
fraction-trans s t u p q r hp hq hr a b = contra≤ (λ g.
    lia (s ∷ t ∷ u ∷ p ∷ q ∷ r ∷ []) (a ≤×< hr & b ≤×< hp & g <×< hq) (search linear depth 40) (omega arith))

module _ (t q : ℕ → ℤ) where
  -- what is for e in its comparison with f
  abbrev part : ℕ → ℕ → ℤ
  part e f = t e *ℤ t e *ℤ q f

  pub squares-refl : (e : ℕ) → le_z (part e e) (part e e) ≡ true
  squares-refl e = le-le_z (≤ℤ_refl (part e e))

  pub squares-total : (e f : ℕ) → le_z (part e f) (part f e) ≡ false → le_z (part f e) (part e f) ≡ true
  squares-total e f h = le-le_z (weaken (le_z-false {x = part e f} {y = part f e} h))

  pub squares-trans : (e f g : ℕ) → pos 0 <ℤ q e → pos 0 <ℤ q f → pos 0 <ℤ q g
      → le_z (part e f) (part f e) ≡ true → le_z (part f g) (part g f) ≡ true → le_z (part e g) (part g e) ≡ true
  squares-trans e f g he hf hg a b = le-le_z (fraction-trans (t e *ℤ t e) (t f *ℤ t f) (t g *ℤ t g) (q e) (q f) (q g) he hf hg
      (le_z-true {x = part e f} {y = part f e} a) (le_z-true {x = part f g} {y = part g f} b))

  pub squares-numbers : (e f : ℕ) {k l m n : ℕ} → t e ≡ pos k → q e ≡ pos l → t f ≡ pos m → q f ≡ pos n
      → le_z (part e f) (part f e) ≡ not (ltb (m * m * l) (k * k * n))
  squares-numbers e f {k} {l} {m} {n} a b c d = rw (a, b, c, d) (go (ltb (m * m * l) (k * k * n)) refl)
    where
      go : (r : Bool) → ltb (m * m * l) (k * k * n) ≡ r → leb (k * k * n) (m * m * l) ≡ not r
      go true p = lt-leb (k * k * n) (m * m * l) (ltb-true (m * m * l) (k * k * n) p)
      go false p = le-leb (k * k * n) (m * m * l) (ltb-false (m * m * l) (k * k * n) p)
