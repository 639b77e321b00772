-- Places of the cart between the two lines of a direction.
--     between-clear       there the cart is apart from both obstacles
--     drive-clear         and driving straight from one to another
--     along-between       driving along the lines stays between them
--     between-room        a place between the lines leaves room of more than 1
--     between-had         and more room has a place, in a direction in lowest terms
--     room-between        both, in the direction across; `millimetre-between`: where the free way is more than a millimetre wide
use Rattle.std.specs.Prelude.{◌≡◌, true, false, ◌⊎◌, ◌↔◌, List, [], ◌∷◌, ◌<◌, ℤ, pos, ◌+ℤ◌, ◌-ℤ◌, ◌*ℤ◌, length, ◌<ℤ◌}
use Rattle.std.proofs.Common.{sym, ◌∙◌, subst, inl, inr, arith}
use mathlib.Core.List.Memᴰ
use Rattle.integer.specs.Ring.{ring, reify}
use Rattle.integer.specs.Linear.{linear, lia, ◌&◌}
use Rattle.integer.specs.Order.{◌<×≤◌, contra<}
use Rattle.plane.specs.Point.{Point, ◌⊕◌, ◌∈◌}
use Rattle.plane.specs.Direction.{value, support}
use Rattle.plane.specs.Furthest.{common_divisor}
use Rattle.plane.specs.Separation.{apart}
use Rattle.plane.specs.Mean.{times}
use Rattle.plane.specs.Cut.{quarter}
use Rattle.plane.specs.Forms.{NonZero}
use Rattle.plane.proofs.theory.forms.Vector.{square-positive}
use Rattle.plane.proofs.theory.support.Support.{value-le-support}
use Rattle.separation.specs.theory.Apart.{direction→apart, apart-sym}
use Rattle.strips.specs.Strip.{least}
use Rattle.strips.proofs.theory.Spread.{least-le-value}
use Rattle.growth.specs.Grown.{grown, placed, driven}
use Rattle.growth.proofs.theory.Alike.{alike-apart}
use Rattle.growth.proofs.theory.Places.{grown-some, place-alike, drive-alike}
use Rattle.passage.specs.Passage.{passable, across, low_line, high_line, room, Between}
use Rattle.passage.proofs.theory.Gaps.{grown-low, grown-high}
use Rattle.passage.proofs.theory.Room.{across-some, room-positive}
use Rattle.passage.proofs.theory.Rows.{across-lowest}
use Rattle.passage.proofs.theory.Bezout.{value-had}

-- ---- points on one side of a list

module _ (d : Point) (P B : List Point) (p : 0 < length P) (b : 0 < length B) where
  points-below : ((t : Point) → t ∈ P → value d t <ℤ least d B) → apart P B ≡ true
  points-below f = direction→apart P B p b (record {
    direction = d;
    below = λ t q m k. lia (value d t ∷ value d q ∷ least d B ∷ []) (f t m & least-le-value d B k) (search linear depth 40) (omega arith);
  })

  points-above : ((t : Point) → t ∈ P → support d B <ℤ value d t) → apart P B ≡ true
  points-above f = apart-sym P B p b ∙ direction→apart B P b p (record {
    direction = d;
    below = λ q t k m. lia (value d t ∷ value d q ∷ support d B ∷ []) (f t m & value-le-support d k) (search linear depth 40) (omega arith);
  })

-- ---- the cart between the lines

module _ (d : Point) (L R A : List Point) (l : 0 < length L) (r : 0 < length R) (a : 0 < length A) where
  module _ (P : List Point) (some : 0 < length P) (all : (t : Point) → t ∈ P → Between d L R A t) where
    places-clear : (apart P (grown L A) ≡ true) × (apart P (grown R A) ≡ true)
    places-clear = (
      points-below d P (grown L A) some (grown-some L A l a) (λ t m. rw (grown-high L A l a d) (all t m).below-high),
      points-above d P (grown R A) some (grown-some R A r a) (λ t m. rw (grown-low R A r a d) (all t m).above_low),
    )

  pub between-clear : (t : Point) → Between d L R A t → (apart (placed A t) L ≡ true) × (apart (placed A t) R ≡ true)
  between-clear t h =
      let c = places-clear (t ∷ []) (omega arith) (λ u m. subst (Between d L R A) (sym (Memᴰ.eq_of_singleton m)) h) in (
        alike-apart (placed A t) L (t ∷ []) (grown L A) (place-alike A L a l t) ∙ c.0,
        alike-apart (placed A t) R (t ∷ []) (grown R A) (place-alike A R a r t) ∙ c.1,
      )

  pub drive-clear : (t u : Point) → Between d L R A t → Between d L R A u
      → (apart (driven A t u) L ≡ true) × (apart (driven A t u) R ≡ true)
  drive-clear t u h k =
      let c = places-clear (t ∷ u ∷ []) (omega arith) (λ w m. either w (Memᴰ.cases_cons m)) in (
        alike-apart (driven A t u) L (t ∷ u ∷ []) (grown L A) (drive-alike A L a l t u) ∙ c.0,
        alike-apart (driven A t u) R (t ∷ u ∷ []) (grown R A) (drive-alike A R a r t u) ∙ c.1,
      )
    where
      either : (w : Point) → (w ≡ t) ⊎ (w ∈ (u ∷ [])) → Between d L R A w
      either w (inl e) = subst (Between d L R A) (sym e) h
      either w (inr m) = subst (Between d L R A) (sym (Memᴰ.eq_of_singleton m)) k

-- ---- along the lines

value-along : (d t : Point) (k : ℤ) → value d (t ⊕ times k (quarter d)) ≡ value d t
unfolding value
value-along d t k = ring (d.x ∷ d.y ∷ t.x ∷ t.y ∷ k ∷ []) (search reify depth 40) tt

module _ (d : Point) (L R A : List Point) where
  pub along-between : (t : Point) (k : ℤ) → Between d L R A t → Between d L R A (t ⊕ times k (quarter d))
  along-between t k h = record { above_low = rw (value-along d t k) h.above_low; below-high = rw (value-along d t k) h.below-high }

  -- ---- whole numbers strictly between

  pub between-room : (t : Point) → Between d L R A t → pos 1 <ℤ (high_line d L A -ℤ low_line d R A)
  between-room t h = lia (value d t ∷ high_line d L A ∷ low_line d R A ∷ []) (h.above_low & h.below-high)
      (search linear depth 40) (omega arith)

  pub between-had : NonZero d → common_divisor d ≡ false → pos 1 <ℤ (high_line d L A -ℤ low_line d R A) → (t : Point) × Between d L R A t
  between-had some lowest wide =
      let (t, e) = value-had d some lowest (low_line d R A +ℤ pos 1) in (
        t,
        record {
          above_low = lia (value d t ∷ low_line d R A ∷ []) e (search linear depth 40) (omega arith);
          below-high = lia (value d t ∷ low_line d R A ∷ high_line d L A ∷ []) (e & wide) (search linear depth 40) (omega arith);
        },
      )

-- ---- in the direction across

-- g·g is more than N
more-than-one : (g N : ℤ) → pos 0 <ℤ g → pos 0 <ℤ N → N <ℤ (g *ℤ g) → pos 1 <ℤ g
more-than-one g N some long wide = contra< (λ h. lia (g ∷ N ∷ []) (some <×≤ h & long & wide & h) (search linear depth 40) (omega arith))

module _ (L R A : List Point) (l : 0 < length L) (r : 0 < length R) (a : 0 < length A) (h : passable L R A ≡ true) where
  abbrev n : Point
  n = across L R A

  pub room-between : (pos 1 <ℤ room L R A) ↔ ((t : Point) × Between n L R A t)
  unfolding room
  room-between = (
    λ wide. between-had n L R A (across-some L R A l r a h) (across-lowest L R A l r a h) wide,
    λ (s : (t : Point) × Between n L R A t). between-room n L R A s.0 s.1,
  )

  pub millimetre-between : value n n <ℤ (room L R A *ℤ room L R A) → (t : Point) × Between n L R A t
  millimetre-between wide = room-between.0 (more-than-one (room L R A) (value n n) (room-positive L R A l r a h)
      (square-positive n (across-some L R A l r a h)) wide)
