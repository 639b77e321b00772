-- What the search for the narrowest gap keeps. Our own, not of documents 01 and 02.
--     kept_of b s         the pair that is kept, if there is one yet
--     since A k ps       the first of the least of the pair that is kept and ps
--     HasGap A p         the gap of the pair is a fraction
--     Found A b p q w    at p and q are good records, and w is how far apart their grown shapes are
--     Told A b s         what is kept was found so
--     best p q w         the pair at p and q, which are so far apart
--     nearer p q w s     what is kept once the pair at p and q is compared
--     is_nearer f s       the distance f is less than that of what is kept, or nothing is kept
--     KeptSized s        what the distance of what is kept is divided by is not 0
--     Passed A b ps s r  once the pairs ps are passed, s has become r
--     from f b p         the current shapes of the floor among the records from place p on
--     is_on f b p         the record at place p is one of them
--     later_pairs f b p q the pairs of the record at p with those from place q on
--     pairs_at f b p      its pairs with all later ones, if it is one; `tried_at f b p q` its one pair with the record at q
--     LeftOut f b q e s  if the record at q is one of them, its pair with any shape that the box e is about is not nearer
--     Fits A r           6 and 7 let the grown shape of a record pass; `rows_at A f b p` these rows of the record at place p, if it is on
--     numbers_of g        what the inner function answers, as numbers
--     Walk A b f p       what a loop knows at place p: no record from there on is bad, and the floor's shapes fit when they are grown
use Rattle.std.specs.Prelude.{◌≡◌, Bool, true, false, not, cond, ◌&&◌, List, [], ◌∷◌, ◌++◌, map, ℕ, ◌≤◌, ◌<◌, ℤ, pos, length, drop, ◌<ℤ◌}
use Rattle.std.specs.Prelude.{Option, Some, None}
use Rattle.plane.specs.Point.{Point}
use Rattle.plane.specs.Shape.{IsShape}
use Rattle.plane.specs.Reply.{Row, NoneApply}
use Rattle.plane.specs.Output.{size_rows}
use Rattle.plane.specs.Clearance.{least_of, clearance_numbers}
use Rattle.plane.specs.Distance.{Fraction, no_more, distance}
use Rattle.polygon.specs.declared.extent.Extent.{Extent}
use Rattle.extents.specs.Far.{Reaches}
use Rattle.journal.specs.Format.{records, name}
use Rattle.journal.specs.Reading.{damaged, held}
use Rattle.journal.specs.Current.{is_around, around}
use Rattle.journal.specs.Survey.{record_at, next_at, Sound}
use Rattle.neighbours.specs.Spacing.{spacing_numbers, fraction_of, Sized}
use Rattle.clearance.specs.declared.measured.Distance.{Distance}
use Rattle.neighbours.specs.All.{All}
use Rattle.gaps.specs.Gap.{Pair, Kept, no_pair, the_pair, grown_of, gap_of, no_wider, narrowest, size_rows_of}
use Rattle.answers.specs.declared.Gap.{Gap}
use Rattle.gaps.specs.declared.search.Best.{Best}

abbrev pub pair_at : List ℕ → ℕ → ℕ → Pair
pair_at b p q = (record_at b p, record_at b q)

abbrev pub kept_of : List ℕ → Option Best → Kept
kept_of b None = no_pair
kept_of b (Some s) = the_pair (pair_at b s.first s.second)

abbrev pub since : List Point → Kept → List Pair → Kept
since A no_pair ps = narrowest A ps
since A (the_pair p) ps = the_pair (least_of (no_wider A) p ps)

abbrev pub HasGap : List Point → Pair → Type 0
HasGap A p = pos 0 <ℤ (gap_of A p).denominator

pub record Found (A : List Point) (b : List ℕ) (p q : ℕ) (w : Option Distance) : Type 0 where
  pub first-sound : Sound b p
  pub second-sound : Sound b q
  pub has-gap : HasGap A (pair_at b p q)
  pub numbers-are : spacing_numbers w ≡ clearance_numbers (grown_of A (record_at b p)) (grown_of A (record_at b q))
  pub fraction-is : fraction_of w ≡ gap_of A (pair_at b p q)
  pub sized : Sized w

abbrev pub Told : List Point → List ℕ → Option Best → Type 0
Told A b None = Unit {0}
Told A b (Some s) = Found A b s.first s.second s.distance

abbrev pub best : ℕ → ℕ → Option Distance → Best
best p q w = record { first = p; second = q; distance = w }

-- the test of the code: a pair that is nearer takes the place of what is kept
abbrev pub nearer : ℕ → ℕ → Option Distance → Option Best → Option Best
nearer p q w None = Some (best p q w)
nearer p q w (Some s) = cond (no_more (fraction_of s.distance) (fraction_of w)) (Some s) (Some (best p q w))

abbrev pub is_nearer : Fraction → Option Best → Bool
is_nearer f None = true
is_nearer f (Some s) = not (no_more (fraction_of s.distance) f)

abbrev pub KeptSized : Option Best → Type 0
KeptSized None = Unit {0}
KeptSized (Some s) = Sized s.distance

pub record Passed (A : List Point) (b : List ℕ) (ps : List Pair) (s r : Option Best) : Type 0 where
  pub told : Told A b r
  pub gaps : All (HasGap A) ps
  pub still : (rest : List Pair) → All (HasGap A) rest → since A (kept_of b s) (ps ++ rest) ≡ since A (kept_of b r) rest

abbrev pub from : ℕ → List ℕ → ℕ → List (List ℕ)
from f b p = around f 65536 (records (drop p b))

unfoldable pub is_on : ℕ → List ℕ → ℕ → Bool
is_on f b p = let r = record_at b p in not (held (name r) (records (drop (next_at b p) b))) && is_around f 65536 r

-- the box is about a shape G to which the cart is added, since the record is not grown
abbrev pub LeftOut : ℕ → List ℕ → ℕ → Extent → Option Best → Type 0
LeftOut f b q e s = is_on f b q ≡ true → (A G : List Point) → 0 < length A → IsShape G → Reaches G A e
    → is_nearer (distance G (grown_of A (record_at b q))) s ≡ false

abbrev pub Fits : List Point → List ℕ → Type 0
Fits A r = NoneApply (size_rows (grown_of A r))

abbrev pub rows_at : List Point → ℕ → List ℕ → ℕ → List Row
rows_at A f b p = cond (is_on f b p) (size_rows (grown_of A (record_at b p))) []

abbrev pub later_pairs : ℕ → List ℕ → ℕ → ℕ → List Pair
later_pairs f b p q = map (λ s. (record_at b p, s)) (from f b q)

abbrev pub pairs_at : ℕ → List ℕ → ℕ → List Pair
pairs_at f b p = cond (is_on f b p) (later_pairs f b p (next_at b p)) []

abbrev pub tried_at : ℕ → List ℕ → ℕ → ℕ → List Pair
tried_at f b p q = cond (is_on f b q) (pair_at b p q ∷ []) []

pub record Walk (A : List Point) (b : List ℕ) (f p : ℕ) : Type 0 where
  pub inside : p ≤ length b
  pub good : damaged (records (drop p b)) ≡ false
  pub sized : NoneApply (size_rows_of A (from f b p))

-- what the inner function answers, as numbers
abbrev pub numbers_of : Option Gap → List ℤ
numbers_of None = []
numbers_of (Some g) = pos g.name ∷ pos g.other ∷ spacing_numbers g.distance
