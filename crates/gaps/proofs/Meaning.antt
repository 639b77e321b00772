-- The narrowest gap of a floor: what its answer says. Each theorem is proved in the theory; here it is only cited. Fractions are compared
-- by products: a/b ≤ c/d says a·d ≤ c·b.
--     the narrowest       no pair is nearer than the answered one, and those before it are further
--     apart               all shapes of the floor are apart from each other exactly if the answered two are
--     the cart            it passes straight between two shapes exactly if they are apart once both are grown; the point 0 0 grows nothing
--     a straight drive    is clear of every shape of the floor exactly if its segment is apart from every grown one
--     settled             an addition that was cut or refused changes no gap; one on another floor only takes its own name away
--     the replies         what is answered, and when
-- A is the cart's outline, which has a corner (0 < length), b the log, in which no record is bad, and f the floor.
use Rattle.std.specs.Prelude.{◌≡◌, refl, true, false, ◌↔◌, ℕ, ◌≤◌, ◌<◌, ℤ, pos, ◌*ℤ◌, length, ◌≤ℤ◌, ◌<ℤ◌}
use mathlib.Core.List.{List, [], ◌∷◌, ◌++◌, Memᴰ}
use Rattle.plane.specs.Point.{Point, points, origin}
use Rattle.plane.specs.Reply.{answered, NoneApply}
use Rattle.plane.specs.Refusal.{Valid}
use Rattle.plane.specs.Corner.{shape_of}
use Rattle.plane.specs.Separation.{apart}
use Rattle.plane.specs.Floor.{Floored, corners}
use Rattle.plane.specs.Question.{reply}
use Rattle.growth.specs.Grown.{driven}
use Rattle.passage.specs.Passage.{passable}
use Rattle.journal.specs.Format.{records, content}
use Rattle.journal.specs.Reading.{damaged}
use Rattle.journal.specs.Adding.{added}
use Rattle.journal.specs.History.{is_finished}
use Rattle.journal.specs.Current.{keep, is_other}
use Rattle.neighbours.specs.Settled.{FirstLeast, IsNearest}
use Rattle.gaps.specs.Gap.{Pair, the_pair, grown_of, pairs_of, gap_of, no_wider, narrowest, on_floor, size_rows_of, gap_numbers, ask_gap}
use Rattle.gaps.proofs.theory.Pairs.{floor-first, none-nearer, earlier-further, floor-apart, floor-passes, floor-in, plain-shape}
use Rattle.gaps.proofs.theory.Pairs.{drive-clear, floor-drive}
use Rattle.gaps.proofs.theory.Additions.{unfinished-gap, elsewhere-gap}
use Rattle.gaps.proofs.theory.Replies.{gap-found}

module _ (A : List Point) (a : 0 < length A) (b : List ℕ) (f : ℕ) (sound : damaged (records b) ≡ false) where
  -- ---- the narrowest

  module _ (p : Pair) (answer : narrowest A (pairs_of (on_floor f b)) ≡ the_pair p) where
    -- it is one of the pairs, none is less, and each before it is more
    pub answer-is-first-of-least : FirstLeast (no_wider A) (pairs_of (on_floor f b)) p
    answer-is-first-of-least = floor-first A a b f sound p answer

    -- no pair is nearer, as exact fractions
    pub no-pair-is-nearer : (q : Pair) → Memᴰ q (pairs_of (on_floor f b))
        → ((gap_of A p).numerator *ℤ (gap_of A q).denominator) ≤ℤ ((gap_of A q).numerator *ℤ (gap_of A p).denominator)
    no-pair-is-nearer q m = none-nearer A a b f sound p answer q m

    -- and every earlier pair is further
    pub earlier-pairs-are-further : (first : FirstLeast (no_wider A) (pairs_of (on_floor f b)) p) (q : Pair) → Memᴰ q first.before
        → ((gap_of A p).numerator *ℤ (gap_of A q).denominator) <ℤ ((gap_of A q).numerator *ℤ (gap_of A p).denominator)
    earlier-pairs-are-further first q m = earlier-further A a b f sound p answer first q m

    -- ---- apart

    -- the answered two are apart, grown, exactly if every two are
    pub apart-exactly-if-answer-is : (apart (grown_of A p.0) (grown_of A p.1) ≡ true)
        ↔ ((q : Pair) → Memᴰ q (pairs_of (on_floor f b)) → apart (grown_of A q.0) (grown_of A q.1) ≡ true)
    apart-exactly-if-answer-is = (floor-apart A a b f sound p answer, λ h. h p (floor-in A a b f sound p answer))

    -- ---- the cart

    -- the cart may pass straight between every two shapes of the floor if it may between the answered ones
    pub passes-if-between-answer : passable (corners (content p.0)) (corners (content p.1)) A ≡ true
        → (q : Pair) → Memᴰ q (pairs_of (on_floor f b)) → passable (corners (content q.0)) (corners (content q.1)) A ≡ true
    passes-if-between-answer h q m = floor-passes A a b f sound p answer h q m

  -- ---- a straight drive

  -- from t to u: the cart is clear of a shape of the floor exactly if the segment is apart from the grown one
  pub drive-is-clear-as-its-segment : (t u : Point) (r : List ℕ) → Memᴰ r (on_floor f b)
      → apart (driven A t u) (corners (content r)) ≡ apart (t ∷ u ∷ []) (grown_of A r)
  drive-is-clear-as-its-segment t u r m = drive-clear A a b f sound t u r m

  -- so one question tells whether a drive is clear of the whole floor: the nearest shape to the sum of the cart and the segment
  pub drive-is-clear-of-the-floor : (l : List ℤ) (t u : Point) (w : List ℕ) → Valid l → points l ≡ shape_of (driven A t u)
      → IsNearest (points l) f 65536 b w → (apart (points l) (corners (content w)) ≡ true)
      ↔ ((r : List ℕ) → Memᴰ r (on_floor f b) → apart (t ∷ u ∷ []) (grown_of A r) ≡ true)
  drive-is-clear-of-the-floor l t u w v e near = floor-drive A a b f sound l t u w v e near

-- the point 0 0 asks the gap of the shapes as they are
pub point-asks-the-plain-gap : (b : List ℕ) (f : ℕ) → damaged (records b) ≡ false → (r : List ℕ) → Memᴰ r (on_floor f b)
    → grown_of (origin ∷ []) r ≡ corners (content r)
point-asks-the-plain-gap b f sound r m = plain-shape b f sound r m

-- ---- settled

module _ (A : List Point) (b : List ℕ) (n g : ℕ) (l : List ℤ) (k f : ℕ) where
  -- cut or refused
  pub unfinished-addition-changes-no-gap : is_finished (added b n g l k).reply ≡ false
      → narrowest A (pairs_of (on_floor f (added b n g l k).log)) ≡ narrowest A (pairs_of (on_floor f b))
  unfinished-addition-changes-no-gap stopped = unfinished-gap A b n g l k f stopped

  -- finished on another floor: the shapes of this one are those that were here, without the name
  pub addition-elsewhere-only-takes-its-name : is_finished (added b n g l k).reply ≡ true → n < 65536 → g < 65536 → (g ≡ f → ⊥)
      → narrowest A (pairs_of (on_floor f (added b n g l k).log)) ≡ narrowest A (pairs_of (keep (is_other n) (on_floor f b)))
  addition-elsewhere-only-takes-its-name done fits floor-fits other = elsewhere-gap A b n g l k f done fits floor-fits other

-- ---- the replies

-- a valid cart, no bad record, two shapes on the floor, and all of them shapes when they are grown: these numbers and the floor
pub gap-is-answered : (b : List ℕ) (cart : Floored) → Valid cart.list → damaged (records b) ≡ false
    → 2 ≤ length (on_floor cart.floor b) → NoneApply (size_rows_of (corners cart) (on_floor cart.floor b))
    → answered (gap_numbers (corners cart) (on_floor cart.floor b) ++ (pos cart.floor ∷ [])) ≡ reply (ask_gap b cart)
gap-is-answered b cart v sound two n = gap-found b cart v sound two n refl
