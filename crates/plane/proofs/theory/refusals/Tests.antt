-- How the tests of the refusal table are decided.
--     breaks-own, breaks-end, breaks-other      a corner against the edge that leaves it, that ends in it, against any other
--     break-found, break-first-edge, break-first-corner      the first edge, then the first corner, that breaks the left rule
--     equal_pair-equal                           what the test of a pair says
--     equal_pair-other, equal_pair-two            a list of another length than two; a list of two, also by the order of its corners
--     outside-found, outside-none, none-outside               a list with a number outside its range; a list with none, by position
--     outside-some                              the test of all numbers, one after the other
use Rattle.std.specs.Prelude.{◌≡◌, refl, Bool, true, false, not, ◌&&◌, List, [], ◌∷◌, ℕ, zero, suc, ◌<◌, eqb, length, get_or, ℤ, pos}
use Rattle.std.proofs.Common.{sym, ◌∙◌, suc-le-suc, le_of_suc-le-suc, not-suc-le-zero, arith}
use Rattle.std.proofs.Math.Bool.{and-false, or-true}
use Rattle.std.proofs.Math.Decide.{ℕ_discrete}
use borrow.Author.Tests.{eq-eqb, ne_eqb}
use Rattle.std.specs.Int.Signed.{lt_z}
use Rattle.plane.specs.Point.{Point, corner, same_point}
use Rattle.plane.specs.Turn.{turn}
use Rattle.plane.specs.Search.{some}
use Rattle.plane.specs.Shape.{next, breaks, precedes}
use Rattle.plane.specs.Refusal.{outside, some_outside, equal_pair, left_broken, breaking_edge, breaking_corner}
use Rattle.plane.proofs.theory.lists.Sought.{true-not-false, first-true, first-least, some-witness, some-none, some-found}
use Rattle.plane.proofs.theory.lists.Members.{same_point-equal}
use Rattle.plane.proofs.theory.forms.Precedes.{same_point-neither}

module _ (ps : List Point) (e c : ℕ) where
  pub breaks-own : c ≡ e → breaks ps e c ≡ false
  unfolding breaks
  breaks-own h = rw (eq-eqb c e h)

  pub breaks-end : c ≡ next (length ps) e → breaks ps e c ≡ false
  unfolding breaks
  breaks-end h = rw (eq-eqb c (next (length ps) e) h) (and-false (not (eqb c e)))

  pub breaks-other : (c ≡ e → ⊥) → (c ≡ next (length ps) e → ⊥)
      → breaks ps e c ≡ not (lt_z (pos 0) (turn (corner ps e) (corner ps (next (length ps) e)) (corner ps c)))
  unfolding breaks
  breaks-other h k = rw (ne_eqb c e h, ne_eqb c (next (length ps) e) k)

-- ---- where the left rule is broken

module _ (ps : List Point) where
  pub break-found : left_broken ps ≡ true → (breaking_edge ps < length ps) × (breaking_corner ps < length ps)
      × (breaks ps (breaking_edge ps) (breaking_corner ps) ≡ true)
  unfolding left_broken breaking_edge breaking_corner
  break-found h =
      let edge = some-found (λ e. some (breaks ps e) (length ps)) (length ps) h in
      let Has-one = first-true (λ e. some (breaks ps e) (length ps)) (length ps) edge in
      let corner = some-found (breaks ps (breaking_edge ps)) (length ps) Has-one in
      (edge, corner, first-true (breaks ps (breaking_edge ps)) (length ps) corner)

  pub break-first-edge : (e c : ℕ) → e < breaking_edge ps → c < length ps → breaks ps e c ≡ false
  unfolding breaking_edge
  break-first-edge e c h k = some-none (breaks ps e) (length ps) (first-least (λ e. some (breaks ps e) (length ps)) (length ps) e h) c k

  pub break-first-corner : (c : ℕ) → c < breaking_corner ps → breaks ps (breaking_edge ps) c ≡ false
  unfolding breaking_corner
  break-first-corner c h = first-least (breaks ps (breaking_edge ps)) (length ps) c h

-- ---- a pair

module _ (ps : List Point) where
  pub equal_pair-other : (length ps ≡ 2 → ⊥) → equal_pair ps ≡ false
  unfolding equal_pair
  equal_pair-other h = rw (ne_eqb (length ps) 2 h)

  pub equal_pair-two : length ps ≡ 2 → equal_pair ps ≡ same_point (corner ps 0) (corner ps 1)
  unfolding equal_pair
  equal_pair-two h = rw (eq-eqb (length ps) 2 h)

  pub equal_pair-equal : equal_pair ps ≡ true → (length ps ≡ 2) × (corner ps 0 ≡ corner ps 1)
  equal_pair-equal h = go (ℕ_discrete (length ps) 2)
    where
      go : Dec (length ps ≡ 2) → (length ps ≡ 2) × (corner ps 0 ≡ corner ps 1)
      go (yes n) = (n, same_point-equal (corner ps 0) (corner ps 1) (sym (equal_pair-two n) ∙ h))
      go (no f) = true-not-false h (equal_pair-other f)

  -- as code asks it: neither precedes the other
  pub equal_pair-neither : length ps ≡ 2
      → equal_pair ps ≡ (not (precedes (corner ps 0) (corner ps 1)) && not (precedes (corner ps 1) (corner ps 0)))
  equal_pair-neither h = equal_pair-two h ∙ same_point-neither (corner ps 0) (corner ps 1)

-- ---- row 3, by position

pub outside-found : (l : List ℤ) (i : ℕ) → i < length l → outside (get_or l i (pos 0)) ≡ true → some_outside l ≡ true
unfolding some_outside
outside-found [] i h e = absurd (not-suc-le-zero h)
outside-found (z ∷ l) zero h e = rw e
outside-found (z ∷ l) (suc i) h e = rw (outside-found l i (le_of_suc-le-suc h) e) (or-true (outside z))

pub outside-none : (l : List ℤ) → ((i : ℕ) → i < length l → outside (get_or l i (pos 0)) ≡ false) → some_outside l ≡ false
unfolding some_outside
outside-none [] f = refl
outside-none (z ∷ l) f = rw (f 0 (omega arith)) (outside-none l (λ i h. f (suc i) (suc-le-suc h)))

pub none-outside : (l : List ℤ) → some_outside l ≡ false → (i : ℕ) → i < length l → outside (get_or l i (pos 0)) ≡ false
none-outside l h i b = go (outside (get_or l i (pos 0))) refl
  where
    go : (t : Bool) → outside (get_or l i (pos 0)) ≡ t → t ≡ false
    go true e = true-not-false (outside-found l i b e) h
    go false e = refl

pub outside-some : (l : List ℤ) → some (λ k. outside (get_or l k (pos 0))) (length l) ≡ some_outside l
outside-some l = go (some (λ k. outside (get_or l k (pos 0))) (length l)) refl
  where
    go : (t : Bool) → some (λ k. outside (get_or l k (pos 0))) (length l) ≡ t → t ≡ some_outside l
    go true e = let r = some-witness _ (length l) e in sym (outside-found l r.0 r.1 r.2)
    go false e = sym (outside-none l (some-none _ (length l) e))
