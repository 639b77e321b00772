-- Passing between two obstacles: what the answer of passage says. Each theorem is proved in the theory; here it is only cited. Fractions
-- are compared by products: a/b ≤ c/d says a·d ≤ c·b.
--     every direction        blocked says that the cart fits in no direction, and passable that it fits in some
--     the direction across   no direction has more room than the answered one, and no other in lowest terms has as much
--     places                 every place between the lines is clear of both obstacles, and every drive along them
--     smaller                smaller obstacles and carts have no less room: "a map that lost a corner" only promises more
--     the replies            what is answered, and when
-- L is the left obstacle, R the right one, A the cart's outline; each has a corner (0 < length), and no number has a bound. A direction d
-- is any two whole numbers, its squared length is value d d. In d, gap_in d L R is from the greatest value of R to the least of L, and
-- spread d A is from the least to the greatest value of the cart (`Strip.antt` of strips).
use Rattle.std.specs.Prelude.{◌≡◌, true, false, List, [], ◌∷◌, ◌++◌, ◌↔◌, ◌≤◌, ◌<◌, ℤ, pos, ◌+ℤ◌, ◌-ℤ◌, ◌*ℤ◌, length, ◌≤ℤ◌, ◌<ℤ◌}
use Rattle.integer.specs.Bound.{Within}
use Rattle.plane.specs.Point.{Point, point, origin, opposite, ◌⊕◌, ◌⊆◌}
use Rattle.plane.specs.Reply.{answered, refused, NoneApply}
use Rattle.plane.specs.Refusal.{Valid}
use Rattle.plane.specs.Direction.{value}
use Rattle.plane.specs.Cut.{quarter}
use Rattle.plane.specs.Furthest.{bad_direction, common_divisor}
use Rattle.plane.specs.Output.{size_rows}
use Rattle.plane.specs.Separation.{inside, apart}
use Rattle.plane.specs.Mean.{times}
use Rattle.plane.specs.Clearance.{top, bottom, nearest, numbers_of}
use Rattle.plane.specs.Floor.{Floored, corners}
use Rattle.plane.specs.Question.{reply}
use Rattle.admission.specs.Three.{SameThree}
use Rattle.strips.specs.Strip.{spread, gap_in}
use Rattle.growth.specs.Grown.{grown, placed, driven, EndsIn}
use Rattle.passage.specs.Passage.{passable, across, room, free_width, Between, passage_numbers, ask_passage, Told}
use Rattle.passage.proofs.theory.Gaps.{grown-gap, blocked-nowhere, nowhere-blocked}
use Rattle.passage.proofs.theory.Room.{room-spread, room-positive, room-at-clearance, no-more-room, room-only}
use Rattle.passage.proofs.theory.Room.{width-bounded, width-last}
use Rattle.passage.proofs.theory.Places.{between-clear, drive-clear, along-between, room-between, millimetre-between}
use Rattle.passage.proofs.theory.Exchanged.{exchanged}
use Rattle.passage.proofs.theory.Smaller.{smaller-passes, smaller-room, smaller-width, fewer-promises}
use Rattle.passage.proofs.theory.Replies.{passage-three, passage-answers, passage-floors, blocked-exactly, one-passed, told-clear}
use Rattle.passage.proofs.theory.Replies.{told-passes, told-bounded}

module _ (L R A : List Point) (l : 0 < length L) (r : 0 < length R) (a : 0 < length A) where
  -- the grown obstacles, and the direction across
  abbrev G : List Point
  G = grown L A

  abbrev H : List Point
  H = grown R A

  abbrev n : Point
  n = across L R A

  -- ---- every direction

  -- growing both obstacles by the cart takes the cart's spread from the gap
  pub growing-takes-the-spread : (d : Point) → gap_in d G H ≡ gap_in d L R -ℤ spread d A
  growing-takes-the-spread d = grown-gap L R A l r a d

  -- blocked: in every direction the gap is at most the cart's spread
  pub blocked-fits-nowhere : passable L R A ≡ false → (d : Point) → gap_in d L R ≤ℤ spread d A
  blocked-fits-nowhere h d = blocked-nowhere L R A l r a h d

  -- and only then
  pub fits-nowhere-is-blocked : ((d : Point) → (d ≡ origin → ⊥) → gap_in d L R ≤ℤ spread d A) → passable L R A ≡ false
  fits-nowhere-is-blocked f = nowhere-blocked L R A l r a f

  -- ---- the direction across

  module _ (h : passable L R A ≡ true) where
    -- the room is what the cart's spread leaves of the gap, and there is some
    pub own-direction-has-room : (room L R A ≡ gap_in n L R -ℤ spread n A) × (pos 0 <ℤ room L R A)
    own-direction-has-room = (room-spread L R A l r a, room-positive L R A l r a h)

    -- in no direction in which the cart fits does its spread leave more: squared, over the direction's squared length
    pub no-direction-has-more-room : (d : Point) → (d ≡ origin → ⊥) → spread d A ≤ℤ gap_in d L R
        → ((gap_in d L R -ℤ spread d A) *ℤ (gap_in d L R -ℤ spread d A) *ℤ value n n) ≤ℤ (room L R A *ℤ room L R A *ℤ value d d)
    no-direction-has-more-room d some fits = no-more-room L R A l r a h d some fits

    -- and a direction in lowest terms in which it leaves as much is the answered one
    pub own-direction-is-the-only-one : (d : Point) → (d ≡ origin → ⊥) → common_divisor d ≡ false → spread d A ≤ℤ gap_in d L R
        → (room L R A *ℤ room L R A *ℤ value d d) ≤ℤ ((gap_in d L R -ℤ spread d A) *ℤ (gap_in d L R -ℤ spread d A) *ℤ value n n)
        → d ≡ n
    own-direction-is-the-only-one d some lowest fits wide = room-only L R A l r a h d some fits lowest wide

    -- the room over the direction's length is the clearance of the grown obstacles
    pub room-clearance : room L R A *ℤ room L R A *ℤ bottom G H (nearest G H) ≡ top G H (nearest G H) *ℤ value n n
    room-clearance = room-at-clearance L R A l r a h

    -- the free width is that, rounded down
    pub width-is-rounded-down : (pos (free_width L R A) *ℤ pos (free_width L R A) *ℤ value n n) ≤ℤ (room L R A *ℤ room L R A)
        × ((room L R A *ℤ room L R A) <ℤ ((pos (free_width L R A) +ℤ pos 1) *ℤ (pos (free_width L R A) +ℤ pos 1) *ℤ value n n))
    width-is-rounded-down = let w = width-bounded L R A l r a h in (w.low, w.high)

    -- and it is the last number that clearance answers of the grown obstacles, before the floor
    pub width-is-last-of-clearance : EndsIn (pos (free_width L R A) ∷ []) (numbers_of G H (nearest G H))
    width-is-last-of-clearance = width-last L R A l r a h

    -- either obstacle may be the left one: exchanged, they have the opposite direction, the same room and the same free width
    pub exchanged-obstacles-turn-direction : (passable R L A ≡ true) × (across R L A ≡ opposite n) × (room R L A ≡ room L R A)
        × (free_width R L A ≡ free_width L R A)
    exchanged-obstacles-turn-direction = exchanged L R A l r a h

  -- ---- places

  -- whatever the direction: a cart at a place strictly between its lines is apart from both obstacles
  pub between-is-clear : (d t : Point) → Between d L R A t → (apart (placed A t) L ≡ true) × (apart (placed A t) R ≡ true)
  between-is-clear d t b = between-clear d L R A l r a t b

  -- and driving straight from one such place to another
  pub driving-between-is-clear : (d t u : Point) → Between d L R A t → Between d L R A u
      → (apart (driven A t u) L ≡ true) × (apart (driven A t u) R ≡ true)
  driving-between-is-clear d t u b e = drive-clear d L R A l r a t u b e

  -- and along the lines, any distance either way
  pub driving-along-is-clear : (d t : Point) (k : ℤ) → Between d L R A t → let u = t ⊕ times k (quarter d) in
      (apart (driven A t u) L ≡ true) × (apart (driven A t u) R ≡ true)
  driving-along-is-clear d t k b = drive-clear d L R A l r a t (t ⊕ times k (quarter d)) b (along-between d L R A t k b)

  module _ (h : passable L R A ≡ true) where
    -- some place, in whole millimetres, is strictly between the lines exactly if the room is more than 1
    pub a-place-is-between : (pos 1 <ℤ room L R A) ↔ ((t : Point) × Between n L R A t)
    a-place-is-between = room-between L R A l r a h

    -- so if the free way is more than a millimetre wide; if it is one millimetre there may be none
    pub more-than-a-millimetre-has-a-place : value n n <ℤ (room L R A *ℤ room L R A) → (t : Point) × Between n L R A t
    more-than-a-millimetre-has-a-place wide = millimetre-between L R A l r a h wide

-- ---- smaller

module _ (L R A M S C : List Point) (l : 0 < length L) (r : 0 < length R) (a : 0 < length A) (m : 0 < length M) (s : 0 < length S)
    (c : 0 < length C) where
  module _ (left : inside M L ≡ true) (right : inside S R ≡ true) (cart : inside C A ≡ true) (h : passable L R A ≡ true) where
    -- between smaller obstacles a smaller cart may pass as well
    pub smaller-is-passable : passable M S C ≡ true
    smaller-is-passable = smaller-passes L R A M S C l r a m s c left right cart h

    -- and the room over the direction's length is no less
    pub smaller-has-no-less-room : (room L R A *ℤ room L R A *ℤ value (across M S C) (across M S C))
        ≤ℤ (room M S C *ℤ room M S C *ℤ value (across L R A) (across L R A))
    smaller-has-no-less-room = smaller-room L R A M S C l r a m s c left right cart h

    -- nor is the free width
    pub smaller-has-no-less-width : free_width L R A ≤ free_width M S C
    smaller-has-no-less-width = smaller-width L R A M S C l r a m s c left right cart h

  -- so a map that lost corners only promises more: "one night a cart was told that a gap by the linen store was wide enough"
  pub lost-corners-promise-more : M ⊆ L → S ⊆ R → C ⊆ A → passable L R A ≡ true
      → (passable M S C ≡ true) × (free_width L R A ≤ free_width M S C)
  lost-corners-promise-more f g k h = fewer-promises L R A M S C l r a m s c f g k h

-- ---- the replies

module _ (l r c : Floored) where
  -- three valid shapes on one floor are answered, with these numbers and their floor, exactly if 6 and 7 pass both grown obstacles
  pub passage-is-answered-exactly : (reply (ask_passage l r c)
      ≡ answered (passage_numbers (corners l) (corners r) (corners c) ++ (pos l.floor ∷ [])))
      ↔ (SameThree l r c × NoneApply (size_rows (grown (corners l) (corners c))) × NoneApply (size_rows (grown (corners r) (corners c))))
  passage-is-answered-exactly = (λ h. passage-three l r c _ h, λ s. passage-answers l r c s.0 s.1 s.2)

  -- and 13 if they are not all on one floor
  pub different-floors-are-refused : Valid l.list → Valid r.list → Valid c.list
      → ((l.floor ≡ r.floor) × (l.floor ≡ c.floor) → ⊥) → reply (ask_passage l r c) ≡ refused 13 []
  different-floors-are-refused u v w f = passage-floors l r c u v w f

  -- blocked is answered exactly if in every direction the gap is at most the cart's spread
  pub blocked-is-answered-exactly : SameThree l r c → NoneApply (size_rows (grown (corners l) (corners c)))
      → NoneApply (size_rows (grown (corners r) (corners c)))
      → (reply (ask_passage l r c) ≡ answered (pos 0 ∷ pos l.floor ∷ []))
      ↔ ((d : Point) → (d ≡ origin → ⊥) → gap_in d (corners l) (corners r) ≤ℤ spread d (corners c))
  blocked-is-answered-exactly s left right = blocked-exactly l r c s left right

  -- an answer that begins with 1
  module _ (u v low high w f : ℤ) (h : reply (ask_passage l r c) ≡ answered (pos 1 ∷ u ∷ v ∷ low ∷ high ∷ w ∷ f ∷ [])) where
    -- says passable; u v is the direction across, low and high are its lines, w is the free width, f the floor
    pub answer-tells : Told l r c u v low high w f
    answer-tells = one-passed l r c u v low high w f h

    -- rows 11 and 12 let its direction pass: it may be given to other questions
    pub across-passes : (bad_direction (point u v) ≡ false) × (common_divisor (point u v) ≡ false)
    across-passes = told-passes l r c u v low high w f h

    -- and its lines are at most 4,000,000,000,000 in size
    pub lines-are-bounded : Within 4_000_000_000_000 low × Within 4_000_000_000_000 high
    lines-are-bounded = told-bounded l r c u v low high w f h

    -- at every place with a value between low and high the cart is apart from both obstacles
    pub answered-places-are-clear : (t : Point) → low <ℤ value (point u v) t → value (point u v) t <ℤ high
        → (apart (placed (corners c) t) (corners l) ≡ true) × (apart (placed (corners c) t) (corners r) ≡ true)
    answered-places-are-clear t above below = told-clear l r c u v low high w f h t above below
