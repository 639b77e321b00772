-- What is kept of a ring depends on its points alone, and not on what names them.
--     ring-core           the corners of a ring are those of its points from the least on
--     same_points         two rings with the same points from the least on have the same corners
--     map-sense           the points of positions in either sense
--     closed-is-same      a ring closed by its first point has the same corners
use Rattle.std.specs.Prelude.{◌≡◌, refl, Bool, true, false, not, cond, ℕ, zero, suc, ◌-◌, ◌<◌, pos, length, take}
use Rattle.std.proofs.Common.{sym, ◌∙◌, ap, ap₂, arith, length-append, take_at}
use mathlib.Core.List.{List, [], ◌∷◌, ◌++◌, map, map-append, reverse, reverse-cons}
use Rattle.std.proofs.lemmas.List.{length-map}
use Rattle.std.proofs.Math.ListN.{get_or-append}
use Rattle.std.specs.Int.Signed.{lt_z}
use Rattle.plane.specs.Point.{Point, corner, origin, same_point}
use Rattle.plane.specs.Turn.{turn}
use Rattle.plane.specs.Shape.{next, precedes}
use Rattle.plane.proofs.theory.lists.Next.{next-below}
use Rattle.plane.proofs.theory.lists.Members.{same_point-self}
use Rattle.ring.specs.Round.{last_of, head_of, optional, closed, opened, differing, distinct, clockwise, in_sense, sensed}
use Rattle.ring.specs.Round.{straight, bending, bends}
use Rattle.ring.specs.Ring.{walked, least_place, open_ring, from_least, ring_places, ring_corners, ring_shape}
use Rattle.ring.specs.theory.Steps.{least-below, least-at-most}

-- a point names itself
abbrev pub self : Point → Point
self p = p

module _ {X : Type 0} (f : X → Point) where
  map_last : (x : X) (xs : List X) → f (last_of x xs) ≡ last_of (f x) (map f xs)
  map_last x [] = refl
  map_last x (y ∷ ys) = map_last y ys

  map-head : (z : X) (xs : List X) → f (head_of z xs) ≡ head_of (f z) (map f xs)
  map-head z [] = refl
  map-head z (x ∷ xs) = refl

  map-optional : (b : Bool) (x : X) (xs : List X) → map f (optional b x ++ xs) ≡ optional b (f x) ++ map f xs
  map-optional true x xs = refl
  map-optional false x xs = refl

  map-take : (k : ℕ) (xs : List X) → map f (take k xs) ≡ take k (map f xs)
  map-take zero xs = refl
  map-take (suc k) [] = refl
  map-take (suc k) (x ∷ xs) = ap (λ (l : List Point). f x ∷ l) (map-take k xs)

  map-reverse : (xs : List X) → map f (reverse xs) ≡ reverse (map f xs)
  map-reverse [] = refl
  map-reverse (x ∷ xs) =
      ap (map f) (reverse-cons x xs) ∙ map-append f (reverse xs) (x ∷ []) ∙ ap (λ (l : List Point). l ++ (f x ∷ [])) (map-reverse xs)
      ∙ sym (reverse-cons (f x) (map f xs))

  map-closed : (xs : List X) → closed f xs ≡ closed self (map f xs)
  map-closed [] = refl
  map-closed (x ∷ []) = refl
  map-closed (x ∷ (y ∷ ys)) = ap (same_point (f x)) (map_last y ys)

  map-opened : (xs : List X) → map f (opened f xs) ≡ opened self (map f xs)
  map-opened xs = go (closed f xs) (closed self (map f xs)) (map-closed xs)
    where
      less : length xs - 1 ≡ length (map f xs) - 1
      less = ap (λ (n : ℕ). n - 1) (sym (length-map xs f))

      go : (a b : Bool) → a ≡ b → map f (cond a (take (length xs - 1) xs) xs) ≡ cond b (take (length (map f xs) - 1) (map f xs)) (map f xs)
      go true b e = map-take (length xs - 1) xs ∙ ap (λ (k : ℕ). take k (map f xs)) less
          ∙ ap (λ (t : Bool). cond t (take (length (map f xs) - 1) (map f xs)) (map f xs)) e
      go false b e = ap (λ (t : Bool). cond t (take (length (map f xs) - 1) (map f xs)) (map f xs)) e

  map-differing : (a : X) (xs : List X) → map f (differing f a xs) ≡ differing self (f a) (map f xs)
  map-differing a [] = refl
  map-differing a (x ∷ xs) =
      map-optional (not (same_point (f a) (f x))) x (differing f x xs)
      ∙ ap (λ (l : List Point). optional (not (same_point (f a) (f x))) (f x) ++ l) (map-differing x xs)

  map-distinct : (xs : List X) → map f (distinct f xs) ≡ distinct self (map f xs)
  map-distinct [] = refl
  map-distinct (x ∷ xs) =
      map-opened (x ∷ differing f x xs) ∙ ap (λ (l : List Point). opened self (f x ∷ l)) (map-differing x xs)

  map-clockwise : (xs : List X) → clockwise f xs ≡ clockwise self (map f xs)
  map-clockwise [] = refl
  map-clockwise (x ∷ xs) = ap₂ (λ (a c : Point). lt_z (turn a (f x) c) (pos 0)) (map_last x xs) (map-head x xs)

  pub map-sense : (b : Bool) (xs : List X) → map f (in_sense b xs) ≡ in_sense b (map f xs)
  map-sense true [] = refl
  map-sense true (x ∷ xs) = ap (λ (l : List Point). f x ∷ l) (map-reverse xs)
  map-sense false xs = refl

  map-bending : (a : X) (xs : List X) (z : X) → map f (bending f a xs z) ≡ bending self (f a) (map f xs) (f z)
  map-bending a [] z = refl
  map-bending a (x ∷ xs) z =
      map-optional (not (straight (f a) (f x) (f (head_of z xs)))) x (bending f x xs z)
      ∙ ap₂ (λ (c : Point) (l : List Point). optional (not (straight (f a) (f x) c)) (f x) ++ l) (map-head z xs) (map-bending x xs z)

  map-bends : (xs : List X) → map f (bends f xs) ≡ bends self (map f xs)
  map-bends [] = refl
  map-bends (x ∷ xs) =
      map-bending (last_of x xs) (x ∷ xs) x ∙ ap (λ (a : Point). bending self a (f x ∷ map f xs) (f x)) (map_last x xs)

  core-map : (xs : List X) → map f (bends f (sensed f (distinct f xs))) ≡ bends self (sensed self (distinct self (map f xs)))
  core-map xs =
      map-bends (sensed f (distinct f xs))
      ∙ ap (bends self) (map-sense (clockwise f (distinct f xs)) (distinct f xs)
      ∙ ap₂ (λ (b : Bool) (l : List Point). in_sense b l) (map-clockwise (distinct f xs) ∙ ap (clockwise self) (map-distinct xs))
      (map-distinct xs))

pub ring-core : (ps : List Point) → ring_shape ps ≡ bends self (sensed self (distinct self (from_least ps)))
unfolding ring_corners ring_places
ring-core ps = let n = length (open_ring ps) in core-map (corner ps) (walked n (least_place (corner ps) n) n)

pub same_points : (ps qs : List Point) → from_least ps ≡ from_least qs → ring_shape ps ≡ ring_shape qs
same_points ps qs e = ring-core ps ∙ ap (λ (l : List Point). bends self (sensed self (distinct self l))) e ∙ sym (ring-core qs)

-- ---- closed by its first point

least-same : (g h : ℕ → Point) (n : ℕ) → ((i : ℕ) → i < n → g i ≡ h i) → least_place g n ≡ least_place h n
least-same g h zero e = refl
least-same g h (suc m) e =
    ap (λ (b : ℕ). cond (precedes (g m) (g b)) m b) (least-same g h m (λ i k. e i (omega arith)))
    ∙ ap₂ (λ (p q : Point). cond (precedes p q) m (least_place h m)) (e m (omega arith))
    (e (least_place h m) (omega (arith, least-at-most h m)))

walked_same : (g h : ℕ → Point) (n s k : ℕ) → s < n → ((i : ℕ) → i < n → g i ≡ h i) → map g (walked n s k) ≡ map h (walked n s k)
walked_same g h n s zero l e = refl
walked_same g h n s (suc k) l e =
    ap₂ (λ (p : Point) (t : List Point). p ∷ t) (e s l) (walked_same g h n (next n s) k (next-below n s l) e)

module _ (p q : Point) (ps : List Point) (not-closed : closed self (p ∷ q ∷ ps) ≡ false) where
  abbrev whole : List Point
  whole = p ∷ q ∷ ps

  last-append : (x : Point) (xs : List Point) → last_of x (xs ++ (p ∷ [])) ≡ p
  last-append x [] = refl
  last-append x (y ∷ ys) = last-append y ys

  is-closed : closed self (whole ++ (p ∷ [])) ≡ true
  is-closed = ap (same_point p) (last-append q ps) ∙ same_point-self p

  pub opened-again : open_ring (whole ++ (p ∷ [])) ≡ whole
  opened-again =
      let all = length-append whole (p ∷ []) in
      ap (λ (b : Bool). cond b (take (length (whole ++ (p ∷ [])) - 1) (whole ++ (p ∷ []))) (whole ++ (p ∷ []))) is-closed
      ∙ take_at whole (p ∷ []) (length (whole ++ (p ∷ [])) - 1) (omega (arith, all))

  pub closed-is-same : ring_shape (whole ++ (p ∷ [])) ≡ ring_shape whole
  closed-is-same = same_points (whole ++ (p ∷ [])) whole from
    where
      all : length (open_ring whole) ≡ length whole
      all = ap (λ (b : Bool). length (cond b (take (length whole - 1) whole) whole)) not-closed

      again : length (open_ring (whole ++ (p ∷ []))) ≡ length (open_ring whole)
      again = ap length opened-again ∙ sym all

      agree : (i : ℕ) → i < length (open_ring whole) → corner (whole ++ (p ∷ [])) i ≡ corner whole i
      agree i h = get_or-append whole (p ∷ []) origin i (omega (arith, all))

      from : from_least (whole ++ (p ∷ [])) ≡ from_least whole
      from =
          let n = length (open_ring whole) in
          let g = corner (whole ++ (p ∷ [])) in
          ap (λ (m : ℕ). map g (walked m (least_place g m) m)) again
          ∙ ap (λ (s : ℕ). map g (walked n s n)) (least-same g (corner whole) n agree)
          ∙ walked_same g (corner whole) n (least_place (corner whole) n) n (least-below (corner whole) n (omega (arith, all))) agree
