-- A corner of the set of a ring's points is never on a straight way, so it is kept.
--     straight-level         where the way goes straight on, the turn is 0 and the product of the steps above 0
--     straight-not-furthest  a point that is strictly furthest is not on a straight way
--     straight-not-least     nor is one that precedes both neighbours
--     bends-has              so each corner is still there
use Rattle.std.specs.Prelude.{◌≡◌, refl, Bool, true, false, not, ◌&&◌, List, [], ◌∷◌, ◌++◌, map, ℕ, ◌<◌, pos, ◌+ℤ◌, ◌-ℤ◌, ◌*ℤ◌, length}
use Rattle.std.specs.Prelude.{◌<ℤ◌, ◌≤ℤ◌}
use Rattle.std.proofs.Common.{sym, ◌∙◌, ap, subst, true≢false, arith}
use Rattle.std.proofs.lemmas.Bool.{false≢true}
use mathlib.Core.List.Memᴰ
use Rattle.std.specs.Int.Signed.{lt_z}
use Rattle.integer.specs.Ring.{ring, reify}
use Rattle.integer.specs.Linear.{linear, lia, ◌&◌}
use Rattle.integer.specs.Order.{lt_z-true, lt_z-false, le_antisym, ◌<×<◌, ◌≤×<◌, ◌≡×◌}
use Rattle.plane.specs.Point.{Point, corner, ◌⊖◌, same_point, ◌∈◌}
use Rattle.plane.specs.Turn.{cross, turn}
use Rattle.plane.specs.Forms.{Precedes}
use Rattle.plane.specs.Direction.{value}
use Rattle.plane.specs.Corner.{Corner}
use Rattle.plane.proofs.theory.lists.Members.{same_point-self, position-member}
use Rattle.plane.proofs.theory.forms.Precedes.{Lower, lower, level, precedes-lower}
use Rattle.plane.proofs.theory.forms.Vector.{turn-edges, value-⊖, value-nonneg}
use Rattle.ring.specs.Round.{Apart, last_of, head_of, optional, straight, bending, bends}
use Rattle.ring.specs.theory.Under.{Under}
use Rattle.ring.specs.theory.Kept.{Ringed, one, round, apart-last, same-swap}

pub record Level (a b c : Point) : Type 0 where
  pub flat : cross (b ⊖ a) (c ⊖ b) ≡ pos 0
  pub onward : pos 0 <ℤ value (b ⊖ a) (c ⊖ b)

pub straight→level : (a b c : Point) → straight a b c ≡ true → Level a b c
unfolding straight
straight→level a b c h = go (lt_z (pos 0) (turn a b c)) refl (lt_z (turn a b c) (pos 0)) refl h
  where
    go : (s : Bool) → lt_z (pos 0) (turn a b c) ≡ s → (t : Bool) → lt_z (turn a b c) (pos 0) ≡ t
        → (not s && (not t && lt_z (pos 0) (value (b ⊖ a) (c ⊖ b)))) ≡ true → Level a b c
    go true p t q k = absurd (false≢true k)
    go false p true q k = absurd (false≢true k)
    go false p false q k = record {
      flat = sym (turn-edges a b c) ∙ le_antisym (lt_z-false {x = pos 0} {y = turn a b c} p) (lt_z-false {x = turn a b c} {y = pos 0} q);
      onward = lt_z-true {x = pos 0} {y = value (b ⊖ a) (c ⊖ b)} k;
    }

-- ---- a point that is furthest, or least

-- both steps go along one line the same way, so that d rises along both or falls along both
steps-agree : (d e g : Point) → value d e *ℤ value e g ≡ value d g *ℤ value e e +ℤ cross e g *ℤ cross d e
unfolding value cross
steps-agree d e g = ring (d.x ∷ d.y ∷ e.x ∷ e.y ∷ g.x ∷ g.y ∷ []) (search reify depth 40) tt

pub straight-not-furthest : (d : Point) {a b c : Point} → Level a b c → value d a <ℤ value d b → value d c <ℤ value d b → ⊥
straight-not-furthest d {a} {b} {c} l h k =
    let e = b ⊖ a in
    let g = c ⊖ b in
    let rise : pos 0 <ℤ value d e =
    lia (value d e ∷ value d a ∷ value d b ∷ []) (h & value-⊖ d b a) (search linear depth 40) (omega arith) in
    let fall : value d g <ℤ pos 0 =
    lia (value d g ∷ value d b ∷ value d c ∷ []) (k & value-⊖ d c b) (search linear depth 40) (omega arith) in
    lia (value d e ∷ value e g ∷ value d g ∷ value e e ∷ cross e g ∷ cross d e ∷ [])
    (steps-agree d e g & rise <×< l.onward & value-nonneg e ≤×< fall & l.flat ≡× cross d e) (search linear depth 40) (omega arith)

module _ {a b c : Point} (l : Level a b c) where
  abbrev e : Point
  e = b ⊖ a

  abbrev g : Point
  g = c ⊖ b

  flat-at : e.x *ℤ g.y -ℤ e.y *ℤ g.x ≡ pos 0
  unfolding cross
  flat-at = l.flat

  onward-at : pos 0 <ℤ (e.x *ℤ g.x +ℤ e.y *ℤ g.y)
  unfolding value
  onward-at = l.onward

  size-at : pos 0 ≤ℤ (g.x *ℤ g.x +ℤ g.y *ℤ g.y)
  unfolding value
  size-at = value-nonneg g

  pub straight-not-least : Precedes b a → Precedes b c → ⊥
  straight-not-least p q = go (precedes-lower p) (precedes-lower q)
    where
      down : b.y <ℤ a.y → e.y <ℤ pos 0
      down h = lia (a.y ∷ b.y ∷ []) h (search linear depth 40) (omega arith)

      still : b.y ≡ a.y → e.y ≡ pos 0
      still h = lia (a.y ∷ b.y ∷ []) h (search linear depth 40) (omega arith)

      back : b.x <ℤ a.x → e.x <ℤ pos 0
      back h = lia (a.x ∷ b.x ∷ []) h (search linear depth 40) (omega arith)

      rises : b.y <ℤ c.y → pos 0 <ℤ g.y
      rises h = lia (c.y ∷ b.y ∷ []) h (search linear depth 40) (omega arith)

      stays : b.y ≡ c.y → g.y ≡ pos 0
      stays h = lia (c.y ∷ b.y ∷ []) h (search linear depth 40) (omega arith)

      forth : b.x <ℤ c.x → pos 0 <ℤ g.x
      forth h = lia (c.x ∷ b.x ∷ []) h (search linear depth 40) (omega arith)

      go : Lower b a → Lower b c → ⊥
      go (lower h) (lower k) = lia (e.x ∷ e.y ∷ g.x ∷ g.y ∷ [])
          (flat-at ≡× g.x & onward-at <×< rises k & size-at ≤×< down h) (search linear depth 40) (omega arith)
      go (lower h) (level s k) = lia (e.x ∷ e.y ∷ g.x ∷ g.y ∷ []) (flat-at & down h <×< forth k & stays s ≡× e.x)
          (search linear depth 40) (omega arith)
      go (level s h) (lower k) = lia (e.x ∷ e.y ∷ g.x ∷ g.y ∷ []) (flat-at & back h <×< rises k & still s ≡× g.x)
          (search linear depth 40) (omega arith)
      go (level s h) (level t k) = lia (e.x ∷ e.y ∷ g.x ∷ g.y ∷ []) (onward-at & back h <×< forth k & still s ≡× g.y)
          (search linear depth 40) (omega arith)

-- ---- the corners are kept

apart-points : (p q : Point) → same_point p q ≡ false → p ≡ q → ⊥
apart-points p q h e = true≢false (sym (same_point-self p) ∙ ap (same_point p) e ∙ h)

pub head-under : (n z : ℕ) (xs : List ℕ) → z < n → Under n xs → head_of z xs < n
head-under n z [] h u = h
head-under n z (x ∷ xs) h u = u.0

pub last_under : (n x : ℕ) (xs : List ℕ) → x < n → Under n xs → last_of x xs < n
last_under n x [] h u = h
last_under n x (y ∷ ys) h u = last_under n y ys u.0 u.1

pub head_apart : (f : ℕ → Point) (x : ℕ) (xs : List ℕ) (z : ℕ) → Apart f x xs z → same_point (f x) (f (head_of z xs)) ≡ false
head_apart f x [] z h = h
head_apart f x (y ∷ ys) z h = h.0

no_step : (p : Point) → value (p ⊖ p) (p ⊖ p) ≡ pos 0
unfolding value
no_step p = ring (p.x ∷ p.y ∷ []) (search reify depth 40) tt

pub point-not-straight : (p : Point) → straight p p p ≡ false
point-not-straight p = go (straight p p p) refl
  where
    go : (t : Bool) → straight p p p ≡ t → t ≡ false
    go true h = absurd (lia (value (p ⊖ p) (p ⊖ p) ∷ []) ((straight→level p p p h).onward & no_step p) (search linear depth 40)
        (omega arith))
    go false h = refl

module _ (ps : List Point) {p : Point} (c : Corner ps p) where
  abbrev f : ℕ → Point
  f = corner ps

  -- another point of the ring is less far
  less : (i : ℕ) → i < length ps → (x : ℕ) → p ≡ f x → same_point (f i) (f x) ≡ false → value c.direction (f i) <ℤ value
      c.direction (f x)
  less i h x e s =
      subst (λ (q : Point). value c.direction (f i) <ℤ value c.direction q) e
      (c.strictly (f i) (position-member ps i h) (λ q. apart-points (f i) (f x) s (q ∙ e)))

  bending-has : (a : ℕ) (xs : List ℕ) (z : ℕ) → a < length ps → Under (length ps) xs → z < length ps → Apart f a xs z → p ∈ map f xs
      → p ∈ map f (bending f a xs z)
  bending-has a [] z h u k s m = absurd (Memᴰ.not-nil m)
  bending-has a (x ∷ xs) z h u k s (Memᴰ.head e) = go (straight (f a) (f x) (f (head_of z xs))) refl
    where
      go : (t : Bool) → straight (f a) (f x) (f (head_of z xs)) ≡ t → p ∈ map f (optional (not t) x ++ bending f x xs z)
      go false q = Memᴰ.head e
      go true q = absurd (straight-not-furthest c.direction (straight→level (f a) (f x) (f (head_of z xs)) q) (less a h x e s.0)
          (less (head_of z xs) (head-under (length ps) z xs k u.1) x e (same-swap (f x) (f (head_of z xs)) (head_apart f x xs z s.1))))
  bending-has a (x ∷ xs) z h u k s (Memᴰ.tail m) = go (straight (f a) (f x) (f (head_of z xs)))
      (bending-has x xs z u.0 u.1 k s.1 m)
    where
      go : (t : Bool) → p ∈ map f (bending f x xs z) → p ∈ map f (optional (not t) x ++ bending f x xs z)
      go true n = n
      go false n = Memᴰ.tail n

  pub bends-has : (xs : List ℕ) → Ringed f xs → Under (length ps) xs → p ∈ map f xs → p ∈ map f (bends f xs)
  bends-has xs (one x) u m =
      subst (λ (t : Bool). p ∈ map f (optional (not t) x ++ [])) (sym (point-not-straight (f x))) m
  bends-has xs (round x ys s) u m =
      bending-has (last_of x ys) (x ∷ ys) x (last_under (length ps) x ys u.0 u.1) u u.0 (apart-last f x ys x s, s) m
