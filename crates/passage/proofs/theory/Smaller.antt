-- Smaller obstacles and a smaller cart: the cart may still pass, and has no less room.
--     smaller-gap          in every direction the gap minus the spread is no less
--     smaller-passes       what is passable stays so
--     smaller-room         the room, over the direction's length, is no less
--     smaller-width        nor is the free width
--     fewer-promises       so it is with obstacles and a cart that lost corners
--     sizes-le             numbers of ℕ compare as among those of ℤ
-- Lists have a point: 0 < length.
use Rattle.std.specs.Prelude.{◌≡◌, true, List, [], ◌∷◌, ℕ, ◌≤◌, ◌<◌, ℤ, pos, ◌-ℤ◌, ◌*ℤ◌, length, ◌≤ℤ◌}
use Rattle.std.proofs.Common.{arith, leb→le}
use Rattle.integer.specs.Linear.{linear, lia, ◌&◌}
use Rattle.integer.specs.Order.{◌≤×≤◌, weaken}
use Rattle.plane.specs.Point.{Point, opposite, ◌⊆◌}
use Rattle.plane.specs.Direction.{value, support}
use Rattle.plane.specs.Separation.{inside}
use Rattle.plane.proofs.theory.forms.Vector.{value-nonneg, square-positive}
use Rattle.plane.proofs.theory.support.Support.{support-subset}
use Rattle.separation.specs.theory.Inside.{inside→reach, reach→inside}
use Rattle.strips.specs.Strip.{least, spread, gap_in}
use Rattle.growth.specs.Grown.{grown}
use Rattle.growth.proofs.theory.Places.{grown-some}
use Rattle.growth.proofs.theory.Replies.{rounded-le}
use Rattle.passage.specs.Passage.{passable, across, room, free_width}
use Rattle.passage.proofs.theory.Gaps.{gap→apart, apart→gap, grown-gap}
use Rattle.passage.proofs.theory.Room.{room-spread, across-some, room-positive, no-more-room, width-bounded}

subset-inside : (A B : List Point) → 0 < length A → 0 < length B → A ⊆ B → inside A B ≡ true
subset-inside A B a b f = reach→inside A B a b (λ d. support-subset d a f)

pub sizes-le : {m n : ℕ} → pos m ≤ℤ pos n → m ≤ n
sizes-le h = leb→le _ _ h.le

-- g·g/D is at most t·t/N, and s at most g
squares-le : (s g D t N : ℤ) → pos 0 ≤ℤ s → s ≤ℤ g → pos 0 ≤ℤ N → (g *ℤ g *ℤ N) ≤ℤ (t *ℤ t *ℤ D) → (s *ℤ s *ℤ N) ≤ℤ (t *ℤ t *ℤ D)
squares-le s g D t N low more long wide =
    let square : (s *ℤ s) ≤ℤ (g *ℤ g) = lia (s ∷ g ∷ []) (more ≤×≤ more & low ≤×≤ more) (search linear depth 40) (omega arith) in
    lia (s ∷ g ∷ D ∷ t ∷ N ∷ []) (square ≤×≤ long & wide) (search linear depth 40) (omega arith)

module _ (L R A M S C : List Point) (l : 0 < length L) (r : 0 < length R) (a : 0 < length A) (m : 0 < length M) (s : 0 < length S)
    (c : 0 < length C) (left : inside M L ≡ true) (right : inside S R ≡ true) (cart : inside C A ≡ true) where
  pub smaller-gap : (d : Point) → (gap_in d L R -ℤ spread d A) ≤ℤ (gap_in d M S -ℤ spread d C)
  unfolding gap_in spread least
  smaller-gap d = lia (support (opposite d) L ∷ support d R ∷ support (opposite d) A ∷ support d A ∷ support (opposite d) M
      ∷ support d S ∷ support (opposite d) C ∷ support d C ∷ [])
      (inside→reach M L m l left (opposite d) & inside→reach S R s r right d & inside→reach C A c a cart d
      & inside→reach C A c a cart (opposite d)) (search linear depth 40) (omega arith)

  module _ (h : passable L R A ≡ true) where
    pub smaller-passes : passable M S C ≡ true
    smaller-passes =
        let g = apart→gap (grown L A) (grown R A) (grown-some L A l a) (grown-some R A r a) h in
        let d = g.direction in
        gap→apart (grown M C) (grown S C) (grown-some M C m c) (grown-some S C s c) d
        (lia (gap_in d (grown L A) (grown R A) ∷ gap_in d (grown M C) (grown S C) ∷ gap_in d L R ∷ spread d A ∷ gap_in d M S ∷ spread d C ∷
        [])
        (g.wide & grown-gap L R A l r a d & grown-gap M S C m s c d & smaller-gap d) (search linear depth 40) (omega arith))

    abbrev n : Point
    n = across L R A

    abbrev k : Point
    k = across M S C

    -- in the larger obstacles' own direction there is no less room between the smaller ones
    pub smaller-room : (room L R A *ℤ room L R A *ℤ value k k) ≤ℤ (room M S C *ℤ room M S C *ℤ value n n)
    smaller-room = squares-le (room L R A) (gap_in n M S -ℤ spread n C) (value n n) (room M S C) (value k k)
        (weaken (room-positive L R A l r a h)) more (value-nonneg k) (no-more-room M S C m s c smaller-passes n
        (across-some L R A l r a h).non_zero (lia (gap_in n M S ∷ spread n C ∷ room L R A ∷ [])
        (more & room-positive L R A l r a h) (search linear depth 40) (omega arith)))
      where
        more : room L R A ≤ℤ (gap_in n M S -ℤ spread n C)
        more = rw (room-spread L R A l r a) (smaller-gap n)

    pub smaller-width : free_width L R A ≤ free_width M S C
    smaller-width = sizes-le (rounded-le (square-positive n (across-some L R A l r a h))
        (square-positive k (across-some M S C m s c smaller-passes)) smaller-room (width-bounded L R A l r a h)
        (width-bounded M S C m s c smaller-passes))

module _ (L R A M S C : List Point) (l : 0 < length L) (r : 0 < length R) (a : 0 < length A) (m : 0 < length M) (s : 0 < length S)
    (c : 0 < length C) where
  pub fewer-promises : M ⊆ L → S ⊆ R → C ⊆ A → passable L R A ≡ true → (passable M S C ≡ true) × (free_width L R A ≤ free_width M S C)
  fewer-promises f g k h =
      let left = subset-inside M L m l f in
      let right = subset-inside S R s r g in
      let cart = subset-inside C A c a k in
      (smaller-passes L R A M S C l r a m s c left right cart h, smaller-width L R A M S C l r a m s c left right cart h)
