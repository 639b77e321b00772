-- Of all candidates the nearest is the only one that meets the ticket's rule.
--     earlier-asym          of two candidates only one comes before the other
--     nearest-first-least   the nearest is the first of the least
--     first-least-nearest   and no other candidate is
use Rattle.std.specs.Prelude.{◌≡◌, true, List, [], ◌∷◌, ℕ, ◌*ℤ◌}
use Rattle.std.proofs.Common.{subst, inl, inr, arith}
use Rattle.integer.specs.Linear.{linear, lia, ◌&◌}
use Rattle.integer.specs.Order.{contra<, le_antisym}
use Rattle.plane.specs.Point.{Point}
use Rattle.plane.specs.Shape.{IsShape}
use Rattle.plane.specs.Separation.{apart}
use Rattle.plane.specs.Clearance.{Candidate, corners, on_second, on_first, top, bottom, nearest}
use Rattle.clearance.specs.Order.{Sooner, Earlier, AtOrAfter, itself, after, FirstOfLeast}
use Rattle.clearance.specs.theory.Nearest.{nearest-is-listed, nearest-is-least, nearest-before-ties}

-- ---- fractions

-- ---- the order

sooner-asym : {i j k l : ℕ} → Sooner i j k l → Sooner k l i j → ⊥
sooner-asym (inl h) (inl g) = omega arith
sooner-asym (inl h) (inr g) = omega (arith, g.0)
sooner-asym (inr h) (inl g) = omega (arith, h.0)
sooner-asym (inr h) (inr g) = omega (arith, h.1, g.1)

pub earlier-asym : (c d : Candidate) → Earlier c d → Earlier d c → ⊥
earlier-asym (corners i j) (corners k l) h g = sooner-asym h g
earlier-asym (corners i j) (on_second k l) h g = g
earlier-asym (corners i j) (on_first k l) h g = g
earlier-asym (on_second i j) (corners k l) h g = h
earlier-asym (on_second i j) (on_second k l) h g = sooner-asym h g
earlier-asym (on_second i j) (on_first k l) h g = g
earlier-asym (on_first i j) (corners k l) h g = h
earlier-asym (on_first i j) (on_second k l) h g = h
earlier-asym (on_first i j) (on_first k l) h g = sooner-asym h g

not-before : {c d : Candidate} → Earlier d c → AtOrAfter c d → ⊥
not-before {c} {d} h (itself e) = earlier-asym c c (subst (λ x. Earlier x c) e h) (subst (λ x. Earlier x c) e h)
not-before {c} {d} h (after g) = earlier-asym d c h g

-- ---- the first of the least

module _ (A B : List Point) (s : IsShape A) (t : IsShape B) (h : apart A B ≡ true) where
  -- a candidate before it that is no further would be as near
  pub nearest-first-least : FirstOfLeast A B (nearest A B)
  nearest-first-least = record {
    is-listed = nearest-is-listed A B s t h;
    none-nearer = nearest-is-least A B s t h;
    earlier-further = λ d l k. contra< (λ g. not-before k (nearest-before-ties A B s t h d l
        (le_antisym g (nearest-is-least A B s t h d l))));
  }

  -- two that are first of the least are as near, and neither comes before the other
  pub first-least-nearest : (c : Candidate) → FirstOfLeast A B c → c ≡ nearest A B
  first-least-nearest c f = go (nearest-before-ties A B s t h c f.is-listed
      (le_antisym (f.none-nearer (nearest A B) (nearest-is-listed A B s t h)) (nearest-is-least A B s t h c f.is-listed)))
    where
      go : AtOrAfter (nearest A B) c → c ≡ nearest A B
      go (itself e) = e
      go (after k) = absurd (lia
          ((top A B c *ℤ bottom A B (nearest A B)) ∷ (top A B (nearest A B) *ℤ bottom A B c) ∷ [])
          (f.earlier-further (nearest A B) (nearest-is-listed A B s t h) k & nearest-is-least A B s t h c f.is-listed)
          (search linear depth 40) (omega arith))
