-- The room between two obstacles that a cart may pass, and the free width.
--     room-gap             the room is the gap of the grown obstacles; `room-spread`: the gap of the obstacles minus the cart's spread
--     across-some          the direction across is not (0,0)
--     room-positive        the room is above 0
--     room-at-clearance    squared, over the direction's squared length, it is the squared clearance of the grown obstacles
--     no-more-room         no direction has more
--     room-only            and no other in lowest terms has as much
--     width-bounded        the free width is the room over the direction's length, rounded down
--     width-last           the last number of the clearance of the grown obstacles
use Rattle.std.specs.Prelude.{◌≡◌, true, false, List, [], ◌∷◌, ◌++◌, ℕ, ◌<◌, ℤ, pos, nat_abs, ◌-ℤ◌, ◌*ℤ◌, length, ◌≤ℤ◌, ◌<ℤ◌}
use Rattle.std.proofs.Math.Path.{sym}
use Rattle.std.proofs.Common.{◌∙◌, ap, arith, le→leb, lt→ltb}
use Rattle.integer.specs.Linear.{linear, lia, ◌&◌}
use Rattle.integer.specs.Order.{weaken, le_of_eq, le_antisym}
use Rattle.integer.specs.Bound.{positive-size, size_is, size-square}
use Rattle.plane.specs.Point.{Point, origin}
use Rattle.plane.specs.Shape.{IsShape}
use Rattle.plane.specs.Direction.{value}
use Rattle.plane.specs.Furthest.{common_divisor}
use Rattle.plane.specs.Measure.{root_below}
use Rattle.plane.specs.Clearance.{top, bottom, nearest, numbers_of}
use Rattle.plane.specs.Forms.{NonZero}
use Rattle.plane.proofs.theory.forms.Vector.{square-positive}
use Rattle.measure.specs.theory.Rounded.{rounded-low, rounded-high}
use Rattle.clearance.specs.theory.Nearest.{nearest-is-whole}
use Rattle.clearance.specs.theory.Rounding.{Bounded, nearest-rounded}
use Rattle.strips.specs.Strip.{spread, gap_in}
use Rattle.growth.specs.Grown.{grown}
use Rattle.growth.proofs.theory.Places.{grown-shape}
use Rattle.growth.proofs.theory.Replies.{rounded-le}
use Rattle.passage.specs.Passage.{passable, across, room, free_width}
use Rattle.passage.proofs.theory.Gaps.{lines-gap, grown-gap}
use Rattle.passage.proofs.theory.Widest.{widest-some, widest-clearance, none-wider, widest-positive}
use Rattle.passage.proofs.theory.Only.{widest-only}

-- the root of m/q, m being n
root-bounded : {m : ℕ} {n q : ℤ} → pos m ≡ n → pos 0 <ℤ q → Bounded n q (root_below m (nat_abs q))
root-bounded {m} {n} {q} same some = record {
  low = rw (← same, ← size_is (weaken some)) (record { le = le→leb _ _ (rounded-low m (nat_abs q) (positive-size some)) });
  high = rw (← same, ← size_is (weaken some)) (record { lt = lt→ltb _ _ (rounded-high m (nat_abs q) (positive-size some)) });
}

module _ (L R A : List Point) (l : 0 < length L) (r : 0 < length R) (a : 0 < length A) where
  abbrev G : List Point
  G = grown L A

  abbrev H : List Point
  H = grown R A

  abbrev n : Point
  n = across L R A

  pub room-gap : room L R A ≡ gap_in n G H
  unfolding room
  room-gap = sym (lines-gap L R A l r a n)

  pub room-spread : room L R A ≡ gap_in n L R -ℤ spread n A
  room-spread = room-gap ∙ grown-gap L R A l r a n

  module _ (h : passable L R A ≡ true) where
    left-shape : IsShape G
    left-shape = grown-shape L A l a

    right-shape : IsShape H
    right-shape = grown-shape R A r a

    pub across-some : NonZero n
    unfolding across
    across-some = widest-some G H left-shape right-shape h

    pub room-positive : pos 0 <ℤ room L R A
    unfolding across
    room-positive = rw room-gap (widest-positive G H left-shape right-shape h)

    pub room-at-clearance : room L R A *ℤ room L R A *ℤ bottom G H (nearest G H) ≡ top G H (nearest G H) *ℤ value n n
    unfolding across
    room-at-clearance = rw room-gap (widest-clearance G H left-shape right-shape h)

    module _ (d : Point) (some : d ≡ origin → ⊥) (fits : spread d A ≤ℤ gap_in d L R) where
      gap-left : pos 0 ≤ℤ gap_in d G H
      gap-left = lia (gap_in d G H ∷ gap_in d L R ∷ spread d A ∷ []) (fits & grown-gap L R A l r a d) (search linear depth 40) (omega arith)

      pub no-more-room : ((gap_in d L R -ℤ spread d A) *ℤ (gap_in d L R -ℤ spread d A) *ℤ value n n)
          ≤ℤ (room L R A *ℤ room L R A *ℤ value d d)
      unfolding across
      no-more-room = rw (room-gap, ← grown-gap L R A l r a d)
          (none-wider G H left-shape right-shape h d (record { non_zero = some }) gap-left)

      pub room-only : common_divisor d ≡ false
          → (room L R A *ℤ room L R A *ℤ value d d) ≤ℤ ((gap_in d L R -ℤ spread d A) *ℤ (gap_in d L R -ℤ spread d A) *ℤ value n n) → d ≡ n
      unfolding across
      room-only lowest wide = widest-only G H left-shape right-shape h d (record { non_zero = some }) gap-left
          (rw (room-gap, ← grown-gap L R A l r a d) at wide) lowest

    pub width-bounded : Bounded (room L R A *ℤ room L R A) (value n n) (free_width L R A)
    unfolding free_width
    width-bounded = root-bounded (size-square (room L R A)) (square-positive n across-some)

    -- both are the root of one fraction, rounded down
    pub width-last : (before : List ℤ) × (numbers_of G H (nearest G H) ≡ before ++ (pos (free_width L R A) ∷ []))
    width-last =
        let c = nearest-rounded G H left-shape right-shape h in
        let whole = nearest-is-whole G H left-shape right-shape h in
        let long = square-positive n across-some in
        let equal = le_antisym (rounded-le whole long (le_of_eq (sym room-at-clearance)) c.bounded width-bounded)
        (rounded-le long whole (le_of_eq room-at-clearance) width-bounded c.bounded) in
        (c.before, c.last ∙ ap (λ w. c.before ++ (w ∷ [])) equal)
