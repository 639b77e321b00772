-- All positions that a walk keeps are positions of the list.
--     Under b xs                  each is below b; `under_at`: by its place; `under-weaken`: and so below a greater bound
--     walked-under, distinct-under, sensed-under, bends-under    so they are on the way round, and in what is kept of it
--     walked-length               how many they are
--     corners-under               so are the positions of a ring's corners
--     places-are, corners-are     what the code finds are the positions of the definition
--     optional-length             at most one more
--     places-some, places-few     some position is kept, and no more than the points without a closing one
use Rattle.std.specs.Prelude.{◌≡◌, refl, Bool, true, false, not, cond, ℕ, zero, suc, ◌-◌, ◌≤◌, ◌<◌, get_or, take}
use Rattle.std.proofs.Common.{sym, ◌∙◌, ap, subst, zero-le, le_refl, arith}
use mathlib.Core.List.{List, [], ◌∷◌, ◌++◌, reverse, reverse-cons}
use Rattle.std.proofs.Math.ListN.{length}
use Rattle.plane.specs.Point.{Point, corner, same_point}
use Rattle.plane.specs.Shape.{next}
use Rattle.plane.proofs.theory.lists.Next.{next-below}
use Rattle.ring.specs.Round.{head_of, last_of, optional, closed, differing, distinct, clockwise, in_sense, sensed, straight, bending}
use Rattle.ring.specs.Round.{bends}
use Rattle.ring.specs.Ring.{walked, least_place, open_ring, ring_places, ring_corners}
use Rattle.ring.specs.theory.Steps.{least-below, opened_some, opened-le}

abbrev pub Under : ℕ → List ℕ → Type 0
Under b [] = Unit {0}
Under b (x ∷ xs) = (x < b) × Under b xs

pub under_at : (b : ℕ) (xs : List ℕ) → Under b xs → (j : ℕ) → j < length xs → get_or xs j 0 < b
under_at b [] u j h = absurd (omega arith)
under_at b (x ∷ xs) u zero h = u.0
under_at b (x ∷ xs) u (suc j) h = under_at b xs u.1 j (omega arith)

under-append : (b : ℕ) (xs ys : List ℕ) → Under b xs → Under b ys → Under b (xs ++ ys)
under-append b [] ys u v = v
under-append b (x ∷ xs) ys u v = (u.0, under-append b xs ys u.1 v)

under-take : (b k : ℕ) (xs : List ℕ) → Under b xs → Under b (take k xs)
under-take b zero xs u = tt
under-take b (suc k) [] u = tt
under-take b (suc k) (x ∷ xs) u = (u.0, under-take b k xs u.1)

under-optional : (b : ℕ) (t : Bool) (x : ℕ) → x < b → Under b (optional t x)
under-optional b true x h = (h, tt)
under-optional b false x h = tt

under-reverse : (b : ℕ) (xs : List ℕ) → Under b xs → Under b (reverse xs)
under-reverse b [] u = tt
under-reverse b (x ∷ xs) u =
    subst (Under b) (sym (reverse-cons x xs)) (under-append b (reverse xs) (x ∷ []) (under-reverse b xs u.1) (u.0, tt))

-- ---- the walks

pub walked-under : (n s k : ℕ) → s < n → Under n (walked n s k)
walked-under n s zero h = tt
walked-under n s (suc k) h = (h, walked-under n (next n s) k (next-below n s h))

pub under-weaken : (b c : ℕ) (xs : List ℕ) → b ≤ c → Under b xs → Under c xs
under-weaken b c [] h u = tt
under-weaken b c (x ∷ xs) h u = (omega (arith, u.0), under-weaken b c xs h u.1)

module _ (f : ℕ → Point) (b : ℕ) where
  pub differing-under : (a : ℕ) (xs : List ℕ) → Under b xs → Under b (differing f a xs)
  differing-under a [] u = tt
  differing-under a (x ∷ xs) u =
      under-append b (optional (not (same_point (f a) (f x))) x) (differing f x xs) (under-optional b (not (same_point (f a) (f x))) x u.0)
      (differing-under x xs u.1)

  pub distinct-under : (xs : List ℕ) → Under b xs → Under b (distinct f xs)
  distinct-under [] u = tt
  distinct-under (x ∷ xs) u = go (closed f (x ∷ differing f x xs))
    where
      all : Under b (x ∷ differing f x xs)
      all = (u.0, differing-under x xs u.1)

      go : (t : Bool) → Under b (cond t (take (length (x ∷ differing f x xs) - 1) (x ∷ differing f x xs)) (x ∷ differing f x xs))
      go true = under-take b (length (x ∷ differing f x xs) - 1) (x ∷ differing f x xs) all
      go false = all

  pub sense-under : (back : Bool) (xs : List ℕ) → Under b xs → Under b (in_sense back xs)
  sense-under true [] u = tt
  sense-under true (x ∷ xs) u = (u.0, under-reverse b xs u.1)
  sense-under false xs u = u

  bending-under : (a : ℕ) (xs : List ℕ) (z : ℕ) → Under b xs → Under b (bending f a xs z)
  bending-under a [] z u = tt
  bending-under a (x ∷ xs) z u =
      under-append b (optional (not (straight (f a) (f x) (f (head_of z xs)))) x) (bending f x xs z)
      (under-optional b (not (straight (f a) (f x) (f (head_of z xs)))) x u.0) (bending-under x xs z u.1)

  pub bends-under : (xs : List ℕ) → Under b xs → Under b (bends f xs)
  bends-under [] u = tt
  bends-under (x ∷ xs) u = bending-under (last_of x xs) (x ∷ xs) x u

-- ---- of a ring

pub walked-length : (n s k : ℕ) → length (walked n s k) ≡ k
walked-length n s zero = refl
walked-length n s (suc k) = ap suc (walked-length n (next n s) k)

pub optional-length : (t : Bool) (x : ℕ) (xs : List ℕ) → length (optional t x ++ xs) ≤ suc (length xs)
optional-length true x xs = le_refl (suc (length xs))
optional-length false x xs = omega arith

differing-few : (f : ℕ → Point) (a : ℕ) (xs : List ℕ) → length (differing f a xs) ≤ length xs
differing-few f a [] = zero-le
differing-few f a (x ∷ xs) =
    let l = optional-length (not (same_point (f a) (f x))) x (differing f x xs) in
    let m = differing-few f x xs in
    omega arith

distinct-few : (f : ℕ → Point) (xs : List ℕ) → length (distinct f xs) ≤ length xs
distinct-few f [] = zero-le
distinct-few f (x ∷ xs) =
    let l = opened-le f (x ∷ differing f x xs) in
    let m = differing-few f x xs in
    omega arith

pub distinct-some : (f : ℕ → Point) (xs : List ℕ) → 0 < length xs → 0 < length (distinct f xs)
distinct-some f [] h = h
distinct-some f (x ∷ xs) h = opened_some f (x ∷ differing f x xs) (omega arith)

module _ (ps : List Point) (some : 0 < length ps) where
  pub start-below : least_place (corner ps) (length (open_ring ps)) < length (open_ring ps)
  start-below = least-below (corner ps) (length (open_ring ps)) (opened_some (λ p. p) ps some)

  pub places-under : Under (length ps) (ring_places ps)
  unfolding ring_places
  places-under =
      let n = length (open_ring ps) in
      let s = least_place (corner ps) n in
      distinct-under (corner ps) (length ps) (walked n s n)
      (under-weaken n (length ps) (walked n s n) (opened-le (λ p. p) ps) (walked-under n s n start-below))

  pub places-some : 0 < length (ring_places ps)
  unfolding ring_places
  places-some =
      let n = length (open_ring ps) in
      let s = least_place (corner ps) n in
      distinct-some (corner ps) (walked n s n) (rw (walked-length n s n) (opened_some (λ p. p) ps some))

  pub places-few : length (ring_places ps) ≤ length (open_ring ps)
  unfolding ring_places
  places-few =
      let n = length (open_ring ps) in
      let s = least_place (corner ps) n in
      rw (walked-length n s n) at (distinct-few (corner ps) (walked n s n))

  pub corners-under : Under (length ps) (ring_corners ps)
  unfolding ring_corners
  corners-under =
      bends-under (corner ps) (length ps) (sensed (corner ps) (ring_places ps))
      (sense-under (corner ps) (length ps) (clockwise (corner ps) (ring_places ps)) (ring_places ps) places-under)

-- ---- the positions, by the code's own steps

pub places-are : (ps : List Point) (n s : ℕ) → n ≡ length (open_ring ps) → s ≡ least_place (corner ps) n
    → distinct (corner ps) (walked n s n) ≡ ring_places ps
unfolding ring_places
places-are ps n s e f =
    ap (λ (t : ℕ). distinct (corner ps) (walked n t n)) f ∙ ap (λ (m : ℕ). distinct (corner ps) (walked m (least_place (corner ps) m) m)) e

pub corners-are : (ps : List Point) → bends (corner ps) (sensed (corner ps) (ring_places ps)) ≡ ring_corners ps
unfolding ring_corners
corners-are ps = refl
