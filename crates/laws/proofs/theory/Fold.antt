-- A grouping as a fold: where every call follows c, the result reaches as far as c folded over the list, whatever the grouping.
--     grouping-some   a list that can be grouped has a shape
--     reach d a       how far the shape a reaches in direction d
--     act c d L z     c of what the shapes of L reach, one after the other, and of z at last: z spares the case of no shape
--     act-order       the order of L makes no difference
--     result-acts     nor does the grouping
--     result-floor    every shape of a list that has a result is on the floor of the result
--     result-on       the result is a valid shape on the floor of the list
use Rattle.std.specs.Prelude.{◌≡◌, refl, ◌⊎◌, ℕ, ◌<◌, ℤ, length}
use Rattle.std.proofs.Common.{sym, ◌∙◌, ap, ap₂, subst, inl, inr, not-suc-le-zero, arith, length-append}
use mathlib.Core.List.Memᴰ
use mathlib.Core.List.{List, [], ◌∷◌, ◌++◌, Memᴰ, Permᴰ}
use Rattle.plane.specs.Point.{Point}
use Rattle.plane.specs.Refusal.{Valid}
use Rattle.plane.specs.Direction.{support}
use Rattle.plane.specs.Floor.{Floored, corners}
use Rattle.laws.specs.Grouping.{ShapeOn, AllOn, Call, Grouping, alone, split, Result}
use Rattle.laws.proofs.theory.Order.{order-length, order-member}
use Rattle.laws.proofs.theory.Answer.{Reaches, both, Combines}

-- ---- no group is empty

pub grouping-some : {L : List Floored} → Grouping L → 0 < length L
grouping-some (alone a) = omega arith
grouping-some (split {A = A} {B = B} order g h out) = omega (arith, grouping-some g, order-length order, length-append A B)

-- ---- the fold

abbrev pub reach : Point → Floored → ℤ
reach d a = support d (corners a)

abbrev pub act : (ℤ → ℤ → ℤ) → Point → List Floored → ℤ → ℤ
act c d [] z = z
act c d (a ∷ L) z = c (reach d a) (act c d L z)

act-append : (c : ℤ → ℤ → ℤ) (d : Point) (A B : List Floored) (z : ℤ) → act c d (A ++ B) z ≡ act c d A (act c d B z)
act-append c d [] B z = refl
act-append c d (a ∷ A) B z = ap (c (reach d a)) (act-append c d A B z)

module _ {call : Call} {c : ℤ → ℤ → ℤ} (k : Combines call c) where
  exchange : (x y z : ℤ) → c x (c y z) ≡ c y (c x z)
  exchange x y z = sym (k.assoc x y z) ∙ ap (λ w. c w z) (k.comm x y) ∙ k.assoc y x z

  pub act-order : (d : Point) {L M : List Floored} → Permᴰ L M → (z : ℤ) → act c d L z ≡ act c d M z
  act-order d Permᴰ.nil z = refl
  act-order d (Permᴰ.cons e p) z = ap₂ (λ a w. c (reach d a) w) e (act-order d p z)
  act-order d (Permᴰ.swap {a = a} {b = b} {l = l} e f) z =
      exchange (reach d a) (reach d b) (act c d l z) ∙ ap₂ (λ p q. c (reach d p) (c (reach d q) (act c d l z))) f e
  act-order d (Permᴰ.trans p q) z = act-order d p z ∙ act-order d q z

  -- the last call reaches c of what its two groups reach; they act one after the other, and so does the list that they were split from
  pub result-acts : (d : Point) {L : List Floored} (g : Grouping L) (l : Floored) → Result call g l
      → (z : ℤ) → c (reach d l) z ≡ act c d L z
  result-acts d (alone a) l r z = ap (λ m. c (reach d m) z) r
  result-acts d (split {A = A} {B = B} order g h out) l r z =
      let a = r.0 in
      let b = r.1 in
      ap (λ x. c x z) ((k.gives→reaches a b out l r.4).reach d) ∙ k.assoc (reach d a) (reach d b) z
      ∙ result-acts d g a r.2 (c (reach d b) z) ∙ ap (act c d A) (result-acts d h b r.3 z)
      ∙ sym (act-append c d A B z) ∙ sym (act-order d order z)

  -- an answered call has its two shapes, and gives its own, on one floor
  pub result-floor : {L : List Floored} (g : Grouping L) (l : Floored) → Result call g l
      → (a : Floored) → Memᴰ a L → a.floor ≡ l.floor
  result-floor (alone x) l r a (Memᴰ.head e) = ap (λ (s : Floored). s.floor) (e ∙ sym r)
  result-floor (alone x) l r a (Memᴰ.tail m) = elim m [ ]
  result-floor (split {A = A} order g h out) l r a m =
      let w = k.gives→reaches r.0 r.1 out l r.4 in
      go (result-floor g r.0 r.2 a) (result-floor h r.1 r.3 a) w (Memᴰ.append_cases A (order-member order a m))
    where
      go : {B : List Floored} → (Memᴰ a A → a.floor ≡ r.0.floor) → (Memᴰ a B → a.floor ≡ r.1.floor)
          → Reaches (both c r.0 r.1) r.0 r.1 l → Memᴰ a A ⊎ Memᴰ a B → a.floor ≡ l.floor
      go f s w (inl n) = f n ∙ sym w.on-floor
      go f s w (inr n) = s n ∙ sym (w.on-floor ∙ w.same.one-floor)

  result-valid : {f : ℕ} {L : List Floored} → AllOn f L → (g : Grouping L) (l : Floored) → Result call g l → Valid l.list
  result-valid v (alone a) l r = subst (λ (s : Floored). Valid s.list) (sym r) (v a (Memᴰ.head refl)).valid
  result-valid v (split order g h out) l r = (k.gives→reaches r.0 r.1 out l r.4).valid

  pub result-on : {f : ℕ} {L : List Floored} → AllOn f L → (g : Grouping L) (l : Floored) → Result call g l → ShapeOn f l
  result-on {L = []} v g l r = absurd (not-suc-le-zero (grouping-some g))
  result-on {L = a ∷ L} v g l r = record {
    valid = result-valid v g l r;
    on_floor = sym (result-floor g l r a (Memᴰ.head refl)) ∙ (v a (Memᴰ.head refl)).on_floor;
  }
