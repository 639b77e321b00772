-- Growing is right: what it is for, and that nothing is lost by it. Each theorem is proved in the theory; here it is only cited.
--     ground            what is grown and what is moved are shapes; what the calls answer
--     at a place        the cart at t is to the obstacle exactly as the point t is to the grown obstacle
--     driving           the cart driving straight, exactly as the segment of its places
--     maps              larger carts, more obstacles, a cart with a load: two outlines
--     lost corners      a map that lost a corner answers differently at some place
-- A is the cart's outline, B the obstacle, t and u are places: any whole numbers, without bound. Lists have a corner: 0 < length.
use Rattle.std.specs.Prelude.{◌≡◌, refl, true, false, not, List, [], ◌∷◌, ◌++◌, ◌⊎◌, ℕ, ◌<◌, ℤ, pos, ◌*ℤ◌, length}
use Rattle.plane.specs.Point.{Point, ◌∈◌, ◌⊆◌}
use Rattle.plane.specs.Shape.{IsShape}
use Rattle.plane.specs.Reply.{answered}
use Rattle.plane.specs.Corner.{shape_of, sums}
use Rattle.plane.specs.Separation.{inside, apart, touching, relation_number}
use Rattle.plane.specs.Mean.{CommonPoint}
use Rattle.plane.specs.Clearance.{top, bottom, nearest}
use Rattle.plane.specs.Floor.{Floored, corners, Same}
use Rattle.plane.specs.Question.{reply, ask_relation, ask_clearance}
use Rattle.laws.specs.Grouping.{sum_call, merge_call, Gives, Called}
use Rattle.strips.specs.OwnDirection.{answer_top, answer_bottom}
use Rattle.growth.specs.Grown.{grown, placed, driven, Differs, list_of, mirror_call, grow_call, grown_shape, EndsIn}
use Rattle.growth.proofs.theory.Alike.{alike-apart, alike-touching, alike-relation, alike-lists}
use Rattle.growth.proofs.theory.Places.{grown-shape, placed-shape, place-alike, drive-alike, place-clearance, drive-clearance}
use Rattle.growth.proofs.theory.Places.{place_inside, drive-met, met-drive, driven-merge, driven-passes}
use Rattle.growth.proofs.theory.Laws.{grown-larger-cart, grown-larger-obstacle, grown-merge, grown-twice, grown-shape_of}
use Rattle.growth.proofs.theory.Lost.{answers-differ, numbers-differ, shapes-differ, answers-known, lost-differs, obstacles-known}
use Rattle.growth.proofs.theory.Replies.{relation-answered, relation-replies, clearance-fractions, clearance-rounded}
use Rattle.growth.proofs.theory.Calls.{grow-answered, mirror-sum-called, grow-merge-called, grow-twice-called}

-- ---- ground

-- the grown obstacle is a shape
pub grown-is-a-shape : (A B : List Point) → 0 < length A → 0 < length B → IsShape (grown B A)
grown-is-a-shape A B a b = grown-shape B A b a

-- and so is an outline at any place
pub placed-is-a-shape : (A : List Point) (t : Point) → IsShape A → IsShape (placed A t)
placed-is-a-shape A t s = placed-shape A t s

-- growing asks for no more than the sets: that of a set's points and that of its shape are the same
pub grown-by-shapes : (A B : List Point) → 0 < length A → 0 < length B → grown (shape_of B) (shape_of A) ≡ grown B A
grown-by-shapes A B a b = grown-shape_of B A b a

module _ (b a : Floored) where
  -- it is what grow writes: an answered grow gives the grown obstacle, its count of corners and its floor
  pub answered-grow : (out v : List ℤ) → (grow_call b a out).reply ≡ answered v
      → (v ≡ pos (length (grown (corners b) (corners a))) ∷ pos b.floor ∷ []) × Gives (grow_call b a out) (grown_shape b a)
  answered-grow out v h = grow-answered b a out v h

  -- "vector sum with the mirrored cart": where a mirror of the outline a gives m, and a sum of the obstacle b and m gives g, in either
  -- order and in any output, g is the grown obstacle, number for number
  pub sum-with-mirrored-cart-is-grown : (m g : Floored) (out : List ℤ) → Gives (mirror_call a out) m → Called sum_call b m g
      → g ≡ grown_shape b a
  sum-with-mirrored-cart-is-grown m g out i c = mirror-sum-called a b m g out i c

-- the number of relation is what relation answers of valid shapes on one floor, and their floor
pub relation-answers-number : (a b : Floored) → Same a b
    → reply (ask_relation a b) ≡ answered (relation_number (corners a) (corners b) ∷ pos a.floor ∷ [])
relation-answers-number a b s = relation-answered a b s

-- ---- at a place

module _ (A B : List Point) (a : 0 < length A) (b : 0 < length B) (t : Point) where
  -- a cart at t is to the obstacle exactly as the point t is to the grown obstacle: apart
  pub cart-is-apart-as-its-place : apart (placed A t) B ≡ apart (t ∷ []) (grown B A)
  cart-is-apart-as-its-place = alike-apart (placed A t) B (t ∷ []) (grown B A) (place-alike A B a b t)

  -- touching
  pub cart-touches-as-its-place : touching (placed A t) B ≡ touching (t ∷ []) (grown B A)
  cart-touches-as-its-place = alike-touching (placed A t) B (t ∷ []) (grown B A) (place-alike A B a b t)

  -- so of the three the same: apart, touching, overlapping
  pub cart-relates-as-its-place : relation_number (placed A t) B ≡ relation_number (t ∷ []) (grown B A)
  cart-relates-as-its-place = alike-relation (placed A t) B (t ∷ []) (grown B A) (place-alike A B a b t)

  -- the cart is clear of the obstacle exactly where its place is not inside the grown one
  pub cart-is-apart-outside-grown : apart (placed A t) B ≡ not (inside (t ∷ []) (grown B A))
  cart-is-apart-outside-grown = place_inside A B a b t

  -- relation replies the same on any floor, where all four lists are valid
  pub relation-replies-as-at-place : (f : ℕ) → Same (list_of (placed A t) f) (list_of B f) → Same (list_of (t ∷ []) f)
      (list_of (grown B A) f)
      → reply (ask_relation (list_of (placed A t) f) (list_of B f)) ≡ reply (ask_relation (list_of (t ∷ []) f) (list_of (grown B A) f))
  relation-replies-as-at-place f s r = relation-replies _ _ _ _ (alike-lists (place-alike A B a b t)) refl s r

  -- two answers of clearance, whatever the floors
  module _ (f g : ℕ) (v w : List ℤ) (h : reply (ask_clearance (list_of (placed A t) f) (list_of B f)) ≡ answered v)
      (l : reply (ask_clearance (list_of (t ∷ []) g) (list_of (grown B A) g)) ≡ answered w) where
    -- tell the same squared distance, as fractions
    pub clearance-replies-as-at-place : answer_top v *ℤ answer_bottom w ≡ answer_top w *ℤ answer_bottom v
    clearance-replies-as-at-place = clearance-fractions _ _ _ _ (alike-lists (place-alike A B a b t)) v w h l

    -- and end in the same number, "the distance rounded down", before the floor, which is last
    pub clearance-rounds-as-at-place : (rounded : ℤ) × EndsIn (rounded ∷ pos f ∷ []) v × EndsIn (rounded ∷ pos g ∷ []) w
    clearance-rounds-as-at-place = clearance-rounded _ _ _ _ (alike-lists (place-alike A B a b t)) v w h l

-- the clearance (document 02, request W3) is the same fraction, for all shapes apart: the least distance of the cart at t from the
-- obstacle is that of the point t from the grown obstacle
pub cart-is-as-near-as-its-place : (A B : List Point) (s : IsShape A) (r : IsShape B) (t : Point) → apart (placed A t) B ≡ true
    → top (placed A t) B (nearest (placed A t) B) *ℤ bottom (t ∷ []) (grown B A) (nearest (t ∷ []) (grown B A))
    ≡ top (t ∷ []) (grown B A) (nearest (t ∷ []) (grown B A)) *ℤ bottom (placed A t) B (nearest (placed A t) B)
cart-is-as-near-as-its-place A B s r t h = place-clearance A B r t s h

-- ---- driving

module _ (A B : List Point) (a : 0 < length A) (b : 0 < length B) (t u : Point) where
  -- driving straight from t to u, the cart relates to the obstacle as the segment from t to u to the grown one: apart
  pub drive-is-apart-as-its-segment : apart (driven A t u) B ≡ apart (t ∷ u ∷ []) (grown B A)
  drive-is-apart-as-its-segment = alike-apart (driven A t u) B (t ∷ u ∷ []) (grown B A) (drive-alike A B a b t u)

  -- touching
  pub drive-touches-as-its-segment : touching (driven A t u) B ≡ touching (t ∷ u ∷ []) (grown B A)
  drive-touches-as-its-segment = alike-touching (driven A t u) B (t ∷ u ∷ []) (grown B A) (drive-alike A B a b t u)

  -- so of the three the same
  pub drive-relates-as-its-segment : relation_number (driven A t u) B ≡ relation_number (t ∷ u ∷ []) (grown B A)
  drive-relates-as-its-segment = alike-relation (driven A t u) B (t ∷ u ∷ []) (grown B A) (drive-alike A B a b t u)

  -- a drive that is not clear has a place on the way, not only of whole millimetres, that is a point of the grown obstacle
  pub drive-meets-at-a-place : apart (driven A t u) B ≡ false → CommonPoint (t ∷ u ∷ []) (grown B A)
  drive-meets-at-a-place h = drive-met A B a b t u h

  -- and only such a drive
  pub place-on-the-way-meets : CommonPoint (t ∷ u ∷ []) (grown B A) → apart (driven A t u) B ≡ false
  place-on-the-way-meets m = met-drive A B a b t u m

module _ (A : List Point) (a : 0 < length A) (t u : Point) where
  -- what the cart passes over is the shape of both ends together
  pub drive-is-merge-of-its-ends : shape_of (driven A t u) ≡ shape_of (placed A t ++ placed A u)
  drive-is-merge-of-its-ends = driven-merge A a t u

  -- and at every place between them the cart is inside it
  pub cart-on-the-way-is-inside-drive : (w : Point) → inside (w ∷ []) (t ∷ u ∷ []) ≡ true → inside (placed A w) (driven A t u) ≡ true
  cart-on-the-way-is-inside-drive w h = driven-passes A a t u w h

-- the clearance of a drive is that of the segment, the same fraction
pub drive-is-as-near-as-its-segment : (A B : List Point) (a : 0 < length A) (r : IsShape B) (t u : Point)
    → let D = shape_of (driven A t u) in let S = shape_of (t ∷ u ∷ []) in let G = grown B A in apart D B ≡ true
    → top D B (nearest D B) *ℤ bottom S G (nearest S G) ≡ top S G (nearest S G) *ℤ bottom D B (nearest D B)
drive-is-as-near-as-its-segment A B a r t u h = drive-clearance A B r t a u h

-- ---- maps

-- a larger cart makes a larger obstacle
pub larger-cart-grows-more : (B A C : List Point) → 0 < length B → 0 < length A → 0 < length C → inside A C ≡ true
    → inside (grown B A) (grown B C) ≡ true
larger-cart-grows-more B A C b a c h = grown-larger-cart B A C b a c h

-- and so does a larger obstacle
pub larger-obstacle-grows-more : (B C A : List Point) → 0 < length B → 0 < length C → 0 < length A → inside B C ≡ true
    → inside (grown B A) (grown C A) ≡ true
larger-obstacle-grows-more B C A b c a h = grown-larger-obstacle B C A b c a h

-- growing the merge of two obstacles is the merge of the grown ones
pub grown-merge-is-merge-of-grown : (B C A : List Point) → 0 < length B → 0 < length C → 0 < length A
    → grown (B ++ C) A ≡ shape_of (grown B A ++ grown C A)
grown-merge-is-merge-of-grown B C A b c a = grown-merge B C A b c a

-- number for number, where no call is refused: b and c merged are o, grown by a they are g, h and l, and g and h merged are n
pub grown-merge-number-for-number : (a b c o g h l n : Floored) (x y z : List ℤ) → Called merge_call b c o → Gives (grow_call b a x) g
    → Gives (grow_call c a y) h → Called merge_call g h n → Gives (grow_call o a z) l → l ≡ n
grown-merge-number-for-number a b c o g h l n x y z p i j q k = grow-merge-called a b c o g h l n x y z i j k p q

-- growing twice is growing by the sum of the outlines
pub grown-twice-is-grown-by-sum : (B A C : List Point) → 0 < length B → 0 < length A → 0 < length C
    → grown (grown B A) C ≡ grown B (shape_of (sums A C))
grown-twice-is-grown-by-sum B A C b a c = grown-twice B A C b a c

-- number for number: s is the sum of the outlines a and c; b grown by a and then by c is h, by s it is l
pub grown-twice-number-for-number : (a b c s g h l : Floored) (x y z : List ℤ) → Called sum_call a c s → Gives (grow_call b a x) g
    → Gives (grow_call g c y) h → Gives (grow_call b s z) l → h ≡ l
grown-twice-number-for-number a b c s g h l x y z p i j k = grow-twice-called a b c s g h l x y z i j k p

-- ---- lost corners

-- a dropped corner shows at that corner, whichever of the others are left: it is not apart from the shape, and apart from what is left
pub lost-corner-tells : (G H : List Point) → IsShape G → 0 < length H → H ⊆ G → (p : Point) → p ∈ G → (p ∈ H → ⊥) → Differs p G H
lost-corner-tells G H s h part p m lost = lost-differs G H s h part p m lost

module _ (G H : List Point) (g : 0 < length G) (h : 0 < length H) (p : Point) where
  -- so does every place inside the one and not inside the other
  pub place-inside-one-tells : inside (p ∷ []) G ≡ true → inside (p ∷ []) H ≡ false → Differs p G H
  place-inside-one-tells i o = answers-differ G H g h p i o

  -- there relation answers different numbers
  pub answers-are-different : Differs p G H → relation_number (p ∷ []) G ≡ relation_number (p ∷ []) H → ⊥
  answers-are-different d = numbers-differ p G H d

module _ (G H : List Point) (s : IsShape G) (r : IsShape H) where
  -- two shapes that differ answer differently at a corner of one of them
  pub different-shapes-answer-differently : (G ≡ H → ⊥) → (p : Point) × ((p ∈ G × Differs p G H) ⊎ (p ∈ H × Differs p H G))
  different-shapes-answer-differently n = shapes-differ G H s r n

  -- so those that answer alike at all places, in whole millimetres, are equal
  pub equal-answers-equal-shapes : ((t : Point) → relation_number (t ∷ []) G ≡ relation_number (t ∷ []) H) → G ≡ H
  equal-answers-equal-shapes same = answers-known G H s r same

-- and obstacles to which a cart relates alike at all places are equal: nothing is lost by growing
pub equal-answers-equal-obstacles : (A B C : List Point) → 0 < length A → IsShape B → IsShape C
    → ((t : Point) → relation_number (placed A t) B ≡ relation_number (placed A t) C) → B ≡ C
equal-answers-equal-obstacles A B C a s r same = obstacles-known A B C a s r same
