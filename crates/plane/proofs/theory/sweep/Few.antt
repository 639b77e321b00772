-- What the shape of a set has of the set: no more corners than it has points, and none out of range unless a point is.
--     different-few     a list of pairwise different points of S is at most as long as S
--     shape_of-few       so is the shape of S
--     list-near, subset-near, append-near, shape_of-near      row 3, or 7, does not apply to points of a list in range, to some of a set
--                       to which it does not, to those of two such sets, and to the corners of the shape of one
use Rattle.std.specs.Prelude.{◌≡◌, refl, false, List, [], ◌∷◌, ◌++◌, ◌⊎◌, ℕ, suc, ◌%◌, ◌≤◌, ◌<◌, ℤ, length}
use Rattle.std.proofs.Common.{sym, ◌∙◌, ap, subst, inl, inr, ⊎_elim, arith}
use mathlib.Core.List.Memᴰ
use Rattle.plane.specs.Point.{Point, points, numbers, corner, ◌∈◌, ◌⊆◌}
use Rattle.plane.specs.Refusal.{some_outside, InRange}
use Rattle.plane.specs.Corner.{shape_of}
use Rattle.plane.proofs.theory.lists.Members.{position-member, member-position}
use Rattle.plane.proofs.theory.lists.Flat.{Near, points_near, points-numbers, numbers-points, numbers-in_range}
use Rattle.plane.proofs.theory.refusals.Accept.{near→in_range, in_range→near}
use Rattle.plane.proofs.theory.hull.Hull.{shape_of-member}
use Rattle.plane.proofs.theory.hull.ShapeOf.{shape_of-shape}
use Rattle.plane.proofs.theory.sum.Positions.{corner-injective}

-- ---- how many

-- a point taken out: the others stay
record Without (p : Point) (S : List Point) : Type 0 where
  rest : List Point
  one_less : length S ≡ suc (length rest)
  stays : (q : Point) → (q ≡ p → ⊥) → q ∈ S → q ∈ rest

without : (p : Point) (S : List Point) → p ∈ S → Without p S
without p [] m = absurd (Memᴰ.not-nil m)
without p (s ∷ S) m = go (λ k. without p S k) (Memᴰ.cases_cons m)
  where
    first : p ≡ s → (q : Point) → (q ≡ p → ⊥) → q ∈ (s ∷ S) → q ∈ S
    first e q n k = pick (Memᴰ.cases_cons k)
      where
        pick : (q ≡ s) ⊎ (q ∈ S) → q ∈ S
        pick (inl f) = absurd (n (f ∙ sym e))
        pick (inr h) = h

    behind : (w : Without p S) → (q : Point) → (q ≡ p → ⊥) → q ∈ (s ∷ S) → q ∈ (s ∷ w.rest)
    behind w q n k = pick (Memᴰ.cases_cons k)
      where
        pick : (q ≡ s) ⊎ (q ∈ S) → q ∈ (s ∷ w.rest)
        pick (inl f) = Memᴰ.head f
        pick (inr h) = Memᴰ.tail (w.stays q n h)

    go : (p ∈ S → Without p S) → (p ≡ s) ⊎ (p ∈ S) → Without p (s ∷ S)
    go later (inl e) = record { rest = S; one_less = refl; stays = first e }
    go later (inr k) = let w = later k in record { rest = s ∷ w.rest; one_less = ap suc w.one_less; stays = behind w }

different-few : (A S : List Point) → ((i j : ℕ) → i < length A → j < length A → corner A i ≡ corner A j → i ≡ j) → A ⊆ S
    → length A ≤ length S
different-few [] S different within = omega arith
different-few (p ∷ A) S different within =
    let w = without p S (within p (Memᴰ.head refl)) in
    let other : (q : Point) → q ∈ A → q ≡ p → ⊥ = λ q m e. (
    let at = member-position m in
    let same : 0 ≡ suc at.0 = different 0 (suc at.0) (omega arith) (omega (arith, at.1)) (sym (at.2 ∙ e)) in omega arith) in
    let ih = different-few A w.rest (λ i j h k e. (let s = different (suc i) (suc j) (omega arith) (omega arith) e in omega arith))
    (λ q m. w.stays q (other q m) (within q (Memᴰ.tail m))) in
    omega (arith, w.one_less)

pub shape_of-few : (S : List Point) → 0 < length S → length (shape_of S) ≤ length S
shape_of-few S some = different-few (shape_of S) S (corner-injective (shape_of S) (shape_of-shape S some)) (λ p. shape_of-member S)

-- ---- in range

-- each point of numbers in range is near
member-near : {S : List Point} {p : Point} → some_outside (numbers S) ≡ false → p ∈ S → Near p
member-near {S} {p} h m =
    let at = member-position (subst (λ ps. p ∈ ps) (sym (points-numbers S)) m) in
    subst Near at.2 (points_near (numbers S) (near→in_range (numbers S) h) at.0 at.1)

members-near : (S : List Point) → ((p : Point) → p ∈ S → Near p) → some_outside (numbers S) ≡ false
members-near S near = in_range→near (numbers S) (numbers-in_range S (λ k b. near (corner S k) (position-member S k b)))

pub list-near : (l : List ℤ) → length l % 2 ≡ 0 → InRange l → some_outside (numbers (points l)) ≡ false
list-near l paired r = ap some_outside (numbers-points l paired) ∙ in_range→near l r

pub subset-near : {A S : List Point} → A ⊆ S → some_outside (numbers S) ≡ false → some_outside (numbers A) ≡ false
subset-near {A} within h = members-near A (λ p m. member-near h (within p m))

pub append-near : (A B : List Point) → some_outside (numbers A) ≡ false → some_outside (numbers B) ≡ false
    → some_outside (numbers (A ++ B)) ≡ false
append-near A B h k = members-near (A ++ B) (λ p m. ⊎_elim (λ (n : p ∈ A). member-near h n) (λ (n : p ∈ B). member-near k n)
    (Memᴰ.append_cases A m))

pub shape_of-near : (S : List Point) → some_outside (numbers S) ≡ false → some_outside (numbers (shape_of S)) ≡ false
shape_of-near S h = subset-near (λ p. shape_of-member S) h
