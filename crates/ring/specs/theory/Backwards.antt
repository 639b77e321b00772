-- A ring read backwards.
--     distinct-same        a list without repeats is kept as it is
--     read-backwards       a ring without repeats, read backwards from its least point, at which it turns, has the same corners
use Rattle.std.specs.Prelude.{◌≡◌, refl, Bool, true, false, not, cond, ◌-◌, ℤ, pos, neg_ℤ, length, take, ◌<ℤ◌}
use Rattle.std.proofs.Common.{sym, ◌∙◌, ap, ap₂, true≢false, arith}
use mathlib.Core.List.{List, [], ◌∷◌, ◌++◌, reverse, reverse-cons, reverse-reverse}
use Rattle.std.specs.Int.Signed.{lt_z}
use Rattle.integer.specs.Linear.{linear, lia}
use Rattle.integer.specs.Order.{lt_z-true, lt_z-false, lt-lt_z, le-lt_z, le_antisym, contra<}
use Rattle.plane.specs.Point.{Point}
use Rattle.plane.specs.Turn.{turn, turn-cycle, turn-swap}
use Rattle.plane.specs.Forms.{All, Precedes}
use Rattle.plane.proofs.theory.lists.Members.{same_point-self, all-subset, reverse-member}
use Rattle.ring.specs.Round.{last_of, head_of, optional, opened, differing, distinct, clockwise, in_sense, sensed}
use Rattle.ring.specs.Round.{Apart, bends}
use Rattle.ring.specs.Ring.{ring_shape}
use Rattle.ring.specs.theory.Kept.{apart-last, apart-reverse, same-swap}
use Rattle.ring.specs.theory.Natural.{self, ring-core}
use Rattle.ring.specs.theory.Begun.{own-least, made}

-- ---- without repeats

differing-same : (a : Point) (xs : List Point) (z : Point) → Apart self a xs z → differing self a xs ≡ xs
differing-same a [] z h = refl
differing-same a (x ∷ xs) z h =
    ap₂ (λ (b : Bool) (l : List Point). optional (not b) x ++ l) h.0 (differing-same x xs z h.1)

pub distinct-same : (x : Point) (xs : List Point) → Apart self x xs x → distinct self (x ∷ xs) ≡ x ∷ xs
distinct-same x [] h = absurd (true≢false (sym (same_point-self x) ∙ h))
distinct-same x (y ∷ ys) h =
    ap (λ (l : List Point). opened self (x ∷ l)) (differing-same x (y ∷ ys) x h)
    ∙ ap (λ (b : Bool). cond b (take (length (x ∷ y ∷ ys) - 1) (x ∷ y ∷ ys)) (x ∷ y ∷ ys))
    (same-swap (last_of y ys) x (apart-last self x (y ∷ ys) x h))

-- ---- read backwards

last-append : (x y : Point) (l : List Point) → last_of x (l ++ (y ∷ [])) ≡ y
last-append x y [] = refl
last-append x y (z ∷ l) = last-append z y l

last-reverse : (x : Point) (r : List Point) → last_of x (reverse r) ≡ head_of x r
last-reverse x [] = refl
last-reverse x (y ∷ ys) = ap (last_of x) (reverse-cons y ys) ∙ last-append x y (reverse ys)

head-append : (z y : Point) (l : List Point) → head_of z (l ++ (y ∷ [])) ≡ head_of y l
head-append z y [] = refl
head-append z y (x ∷ l) = refl

head-reverse : (z : Point) (r : List Point) → head_of z (reverse r) ≡ last_of z r
head-reverse z [] = refl
head-reverse z (y ∷ ys) = ap (head_of z) (reverse-cons y ys) ∙ head-append z y (reverse ys) ∙ head-reverse y ys

turn-back-to-front : (a b c : Point) → turn c b a ≡ neg_ℤ (turn a b c)
turn-back-to-front a b c = turn-cycle c b a ∙ turn-swap a b c

module _ (x : Point) (r : List Point) (apart : Apart self x r x) (turns : turn (last_of x r) x (head_of x r) ≡ pos 0 → ⊥) where
  abbrev t : ℤ
  t = turn (last_of x r) x (head_of x r)

  other-sense : clockwise self (x ∷ reverse r) ≡ lt_z (neg_ℤ t) (pos 0)
  other-sense =
      ap₂ (λ (a c : Point). lt_z (turn a x c) (pos 0)) (last-reverse x r) (head-reverse x r)
      ∙ ap (λ (z : ℤ). lt_z z (pos 0)) (turn-back-to-front (last_of x r) x (head_of x r))

  sensed-same : sensed self (x ∷ reverse r) ≡ sensed self (x ∷ r)
  sensed-same = go (lt_z t (pos 0)) refl
    where
      go : (b : Bool) → lt_z t (pos 0) ≡ b → sensed self (x ∷ reverse r) ≡ in_sense b (x ∷ r)
      go true e = ap (λ (b : Bool). in_sense b (x ∷ reverse r)) (other-sense ∙ le-lt_z {x = neg_ℤ t} {y = pos 0}
          (lia (t ∷ []) (lt_z-true {x = t} {y = pos 0} e) (search linear depth 40) (omega arith)))
      go false e = ap (λ (b : Bool). in_sense b (x ∷ reverse r)) (other-sense ∙ lt-lt_z {x = neg_ℤ t} {y = pos 0} falls)
          ∙ ap (λ (l : List Point). x ∷ l) (reverse-reverse r)
        where
          falls : neg_ℤ t <ℤ pos 0
          falls = contra< (λ g. turns (le_antisym (lia (t ∷ []) g (search linear depth 40) (omega arith))
              (lt_z-false {x = t} {y = pos 0} e)))

  pub read-backwards : All (λ y. Precedes x y) r → ring_shape (x ∷ reverse r) ≡ ring_shape (x ∷ r)
  read-backwards least =
      let back = all-subset (λ y. Precedes x y) (reverse r) (λ q m. reverse-member r m) least in
      ring-core (x ∷ reverse r)
      ∙ ap made (own-least x (reverse r) back)
      ∙ ap (λ (l : List Point). bends self (sensed self l)) (distinct-same x (reverse r) (apart-reverse self x r x apart))
      ∙ ap (bends self) sensed-same
      ∙ sym (ring-core (x ∷ r) ∙ ap made (own-least x r least) ∙ ap (λ (l : List Point). bends self (sensed self l))
      (distinct-same x r apart))
