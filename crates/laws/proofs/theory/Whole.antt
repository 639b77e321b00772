-- The result of a grouping is the shape that document 01 states for its whole list.
--     support-origin                 the origin reaches 0
--     sums_of-acts, flatten-acts     what all sums of corners, and all corners together, reach is the same fold
--     sums-whole, merges-whole       so the result is the shape of that set
--     sums-result, merges-result     and a grouping of which no call is refused has it
use Rattle.std.specs.Prelude.{◌≡◌, refl, ℕ, ◌<◌, ℤ, pos, ◌+ℤ◌, length}
use Rattle.std.proofs.Common.{sym, ◌∙◌, ap, not-suc-le-zero, arith, length-append}
use mathlib.Core.List.Memᴰ
use mathlib.Core.List.{List, [], ◌∷◌, map, flatten, append-nil}
use Rattle.std.proofs.Math.IntN.{+ℤ_idl, +ℤ_assoc}
use Rattle.integer.specs.Ring.{ring, reify}
use Rattle.plane.specs.Point.{Point, origin, numbers}
use Rattle.plane.specs.Direction.{value, support, greater}
use Rattle.plane.specs.Corner.{shape_of, sums_of}
use Rattle.plane.specs.Floor.{Floored, on, corners, two_shapes}
use Rattle.plane.proofs.theory.lists.Flat.{numbers-points}
use Rattle.plane.proofs.theory.lists.Members.{sums-some}
use Rattle.plane.proofs.theory.lists.Greater.{greater-assoc}
use Rattle.plane.proofs.theory.support.Support.{support-append, support-sums}
use Rattle.plane.proofs.theory.hull.ShapeOf.{shape-known}
use Rattle.laws.specs.Grouping.{AllOn, Call, sum_call, merge_call, Grouping, Result, Refused, sum_of_all, merge_of_all}
use Rattle.laws.proofs.theory.Answer.{Combines, sum-combines, merge-combines, floored-same, made-answered}
use Rattle.laws.proofs.theory.Refused.{unrefused→result}
use Rattle.laws.proofs.theory.Fold.{grouping-some, reach, act, result-acts, result-on}

-- ---- what the stated sets reach

pub support-origin : (d : Point) → support d (origin ∷ []) ≡ pos 0
unfolding support value
support-origin d = ring (d.x ∷ d.y ∷ []) (search reify depth 40) tt

some_first : {f : ℕ} {a : Floored} {L : List Floored} → AllOn f (a ∷ L) → 0 < length (corners a)
some_first {a = a} v = (v a (Memᴰ.head refl)).valid.shape.some

valid-later : {f : ℕ} {a : Floored} {L : List Floored} → AllOn f (a ∷ L) → AllOn f L
valid-later v b m = v b (Memᴰ.tail m)

sums_of-some : {f : ℕ} (L : List Floored) → AllOn f L → 0 < length (sums_of (map corners L))
sums_of-some [] v = omega arith
sums_of-some (a ∷ L) v = sums-some (corners a) (sums_of (map corners L)) (some_first v) (sums_of-some L (valid-later v))

sums_of-acts : {f : ℕ} (d : Point) (L : List Floored) → AllOn f L → (z : ℤ) → support d (sums_of (map corners L)) +ℤ z ≡ act ◌+ℤ◌ d L z
sums_of-acts d [] v z = ap (λ x. x +ℤ z) (support-origin d) ∙ +ℤ_idl z
sums_of-acts d (a ∷ L) v z =
    let S = sums_of (map corners L) in
    ap (λ x. x +ℤ z) (support-sums d (corners a) S (some_first v) (sums_of-some L (valid-later v)))
    ∙ +ℤ_assoc (reach d a) (support d S) z ∙ ap (λ x. reach d a +ℤ x) (sums_of-acts d L (valid-later v) z)

flatten-some : {f : ℕ} (a : Floored) (L : List Floored) → AllOn f (a ∷ L) → 0 < length (flatten (map corners (a ∷ L)))
unfolding flatten
flatten-some a L v = omega (arith, some_first v, length-append (corners a) (flatten (map corners L)))

flatten-acts : {f : ℕ} (d : Point) (a : Floored) (L : List Floored) → AllOn f (a ∷ L)
    → (z : ℤ) → greater (support d (flatten (map corners (a ∷ L)))) z ≡ act greater d (a ∷ L) z
unfolding flatten
flatten-acts d a [] v z = ap (λ S. greater (support d S) z) (append-nil (corners a))
flatten-acts d a (b ∷ L) v z =
    let S = flatten (map corners (b ∷ L)) in
    ap (λ x. greater x z) (support-append d (corners a) S (some_first v) (flatten-some b L (valid-later v)))
    ∙ greater-assoc (reach d a) (support d S) z ∙ ap (greater (reach d a)) (flatten-acts d b L (valid-later v) z)

-- ---- the result

-- a set that reaches as far as the fold has the result for its shape: what they reach cannot be told apart by any z
result-known : {call : Call} {c : ℤ → ℤ → ℤ} → Combines call c → (f : ℕ) {L : List Floored} → AllOn f L → (g : Grouping L) (l : Floored)
    → Result call g l → (S : List Point) → 0 < length S → ((d : Point) (z : ℤ) → c (support d S) z ≡ act c d L z)
    → l ≡ on (numbers (shape_of S)) f
result-known k f v g l r S some acts =
    let ok = result-on k v g l r in
    floored-same (sym (numbers-points l.list ok.valid.paired)
    ∙ ap numbers (shape-known (corners l) S ok.valid.shape some (λ d. k.cancel _ _ (λ z. result-acts k d g l r z ∙ sym (acts d z)))))
    ok.on_floor

module _ (f : ℕ) where
  pub sums-whole : (L : List Floored) → AllOn f L → (g : Grouping L) (l : Floored) → Result sum_call g l → l ≡ sum_of_all f L
  sums-whole L v g l r = result-known sum-combines f v g l r (sums_of (map corners L)) (sums_of-some L v) (λ d. sums_of-acts d L v)

  pub merges-whole : (L : List Floored) → AllOn f L → (g : Grouping L) (l : Floored) → Result merge_call g l → l ≡ merge_of_all f L
  merges-whole [] v g l r = absurd (not-suc-le-zero (grouping-some g))
  merges-whole (a ∷ L) v g l r =
      result-known merge-combines f v g l r (flatten (map corners (a ∷ L))) (flatten-some a L v) (λ d. flatten-acts d a L v)

  -- ---- that it is there

  pub sums-result : (L : List Floored) → AllOn f L → (g : Grouping L) → (Refused sum_call g → ⊥) → Result sum_call g (sum_of_all f L)
  sums-result L v g n =
      unrefused→result sum_call (λ a b out u h. (_, (made-answered (two_shapes a b) _ out u h).1)) g (sum_of_all f L) (sums-whole L v g) n

  pub merges-result : (L : List Floored) → AllOn f L → (g : Grouping L) → (Refused merge_call g → ⊥) → Result merge_call g
      (merge_of_all f L)
  merges-result L v g n =
      unrefused→result merge_call (λ a b out u h. (_, (made-answered (two_shapes a b) _ out u h).1)) g (merge_of_all f L)
      (merges-whole L v g) n
