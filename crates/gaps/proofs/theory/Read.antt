-- The records of a floor, as the code reads them.
--     on-elsewhere, on-here      whether the record at a place is one of the floor's, by its head
--     stated-few                 its numbers fit a buffer for any shape
--     read-list, read_length     and are at its front once they are read
--     grown_of-shape, grown_of-valid, grown_of-few      the grown shape is one; if 6 and 7 pass, it fits such a buffer
--     pair-gap, found_of         the gap of a pair is a fraction, and what was measured is it
--     left_out                   boxes show that it is not nearer than what is kept
use Rattle.std.specs.Prelude.{◌≡◌, Bool, ◌&&◌, ℕ, ◌*◌, ◌<◌, ◌≤◌, ℤ, length, take, drop, Option}
use Rattle.std.proofs.Math.Path.{refl, sym, ap₂}
use Rattle.std.proofs.Common.{◌∙◌, ap, subst, arith, eq-eqb, ne_eqb}
use Rattle.std.proofs.Math.Bool.{true, false, not}
use mathlib.Core.List.{List}
use Rattle.std.proofs.Math.Dec.{eqb}
use Rattle.plane.specs.Limits.{max_corners}
use Rattle.plane.specs.Point.{Point, points, numbers}
use Rattle.plane.specs.Shape.{IsShape}
use Rattle.plane.specs.Refusal.{Valid}
use Rattle.plane.specs.Output.{overwritten}
use Rattle.plane.proofs.theory.lists.Flat.{points-length, points-numbers, numbers-length}
use Rattle.polygon.specs.declared.extent.Extent.{Extent}
use Rattle.polygon.specs.Extent.{Extends}
use Rattle.extents.specs.Far.{Spans, Reaches}
use Rattle.extents.specs.theory.Gaps.{grown-spans}
use Rattle.endian.specs.Bytes.{words_at}
use Rattle.endian.specs.theory.Bytes.{words_at-length}
use Rattle.endian.specs.theory.Coded.{front-is, front_length}
use Rattle.plane.specs.Clearance.{clearance_numbers}
use Rattle.clearance.specs.theory.Distance.{distance-whole}
use Rattle.neighbours.specs.Spacing.{spacing_numbers}
use Rattle.clearance.specs.declared.measured.Distance.{Distance}
use Rattle.neighbours.specs.theory.Spacings.{spacing-fraction, spacing-sized}
use Rattle.growth.proofs.theory.Places.{grown-shape}
use Rattle.passage.proofs.theory.Found.{grown-valid}
use Rattle.journal.specs.Format.{records, name, list}
use Rattle.journal.specs.Reading.{held}
use Rattle.journal.specs.Current.{is_other, is_around}
use Rattle.journal.specs.Survey.{record_at, next_at, Sound, Stated}
use Rattle.journal.proofs.theory.Stepping.{here-valid}
use Rattle.journal.specs.declared.head.Head.{Head}
use Rattle.gaps.specs.Gap.{grown_of, gap_of}
use Rattle.gaps.specs.Search.{is_on, is_nearer, pair_at, HasGap, LeftOut, Fits, Found}
use Rattle.gaps.specs.declared.search.Best.{Best}

-- ---- the head

module _ {b : List ℕ} {p : ℕ} {h : Head} (s : Stated b p h) (f : ℕ) where
  abbrev is_held : Bool
  is_held = held (name (record_at b p)) (records (drop (next_at b p) b))

  around_here : {t : Bool} → eqb h.floor f ≡ t → is_around f 65536 (record_at b p) ≡ t
  unfolding is_around is_other
  around_here {t} e =
      ap₂ (λ (g n : ℕ). eqb g f && not (eqb n 65536)) s.floor-is s.name-is
      ∙ ap₂ (λ (x y : Bool). x && not y) e (ne_eqb h.name 65536 (λ q. absurd (omega (arith, s.name-fits, q)))) ∙ and-true t
    where
      and-true : (x : Bool) → (x && true) ≡ x
      and-true true = refl
      and-true false = refl

  pub on-elsewhere : (h.floor ≡ f → ⊥) → false ≡ is_on f b p
  unfolding is_on
  on-elsewhere d = sym (ap (λ (t : Bool). not is_held && t) (around_here (ne_eqb h.floor f d)) ∙ none (not is_held))
    where
      none : (x : Bool) → (x && false) ≡ false
      none true = refl
      none false = refl

  pub on-here : h.floor ≡ f → not is_held ≡ is_on f b p
  unfolding is_on
  on-here e = sym (ap (λ (t : Bool). not is_held && t) (around_here (eq-eqb h.floor f e)) ∙ all (not is_held))
    where
      all : (x : Bool) → (x && true) ≡ x
      all true = refl
      all false = refl

-- ---- the numbers

pub valid-fits : (l : List ℤ) → Valid l → length l ≤ 2 * max_corners
valid-fits l v = omega (arith, v.paired, v.few, points-length l)

module _ {b : List ℕ} {p : ℕ} {h : Head} (k : Sound b p) (s : Stated b p h) where
  count-is : length (list (record_at b p)) ≡ h.count
  count-is = ap length s.list-is ∙ words_at-length b h.count h.place

  pub stated-few : h.count ≤ 2 * max_corners
  stated-few = omega (arith, count-is, valid-fits (list (record_at b p)) (here-valid k))

  module _ (old out : List ℤ) (e : out ≡ overwritten (words_at h.count b h.place) old) (room : length old ≡ 2 * max_corners) where
    pub read-list : take h.count out ≡ list (record_at b p)
    read-list = front-is (words_at h.count b h.place) old out e h.count (words_at-length b h.count h.place) ∙ sym s.list-is

    pub read_length : length out ≡ 2 * max_corners
    read_length = front_length (words_at h.count b h.place) old out e
        (omega (arith, words_at-length b h.count h.place, stated-few, room)) ∙ room

    pub read_count : h.count ≡ length (list (record_at b p))
    read_count = sym count-is

pub written-length : (ps : List Point) (old out : List ℤ) → out ≡ overwritten (numbers ps) old → 2 * length ps ≤ length old
    → length out ≡ length old
written-length ps old out e h = front_length (numbers ps) old out e (omega (arith, numbers-length ps, h))

-- ---- the grown shape

module _ (A : List Point) (r : List ℕ) (v : Valid (list r)) (a : 0 < length A) where
  pub grown_of-shape : IsShape (grown_of A r)
  unfolding grown_of
  grown_of-shape = grown-shape (points (list r)) A v.shape.some a

  pub grown_of-valid : Fits A r → Valid (numbers (grown_of A r))
  unfolding grown_of
  grown_of-valid f = grown-valid (points (list r)) A v.shape.some a f

  pub grown_of-few : Fits A r → 2 * length (grown_of A r) ≤ 2 * max_corners
  grown_of-few f = let few = rw points-numbers at (grown_of-valid f).few in omega (arith, few)

  -- the box about another shape and the cart, and that about the record's numbers, span that shape and the grown one
  pub grown_of-spans : {G : List Point} {e : Extent} → Reaches G A e → {l : List ℤ} → l ≡ list r
      → (g : Extent) → Extends (points l) g → Spans G (grown_of A r) e g
  unfolding grown_of
  grown_of-spans x same g y = grown-spans (points (list r)) A v.shape.some a x (subst (λ (l : List ℤ). Extends (points l) g) same y)

-- ---- a pair

module _ (A : List Point) (b : List ℕ) (p q : ℕ) (a : 0 < length A) (k : Sound b p) (l : Sound b q) where
  abbrev G : List Point
  G = grown_of A (record_at b p)

  abbrev H : List Point
  H = grown_of A (record_at b q)

  first-shape : IsShape G
  first-shape = grown_of-shape A (record_at b p) (here-valid k) a

  second-shape : IsShape H
  second-shape = grown_of-shape A (record_at b q) (here-valid l) a

  pub pair-gap : HasGap A (pair_at b p q)
  unfolding gap_of
  pair-gap = distance-whole G H first-shape second-shape

  pub found_of : (w : Option Distance) → spacing_numbers w ≡ clearance_numbers G H → Found A b p q w
  unfolding gap_of
  found_of w e = record {
    first-sound = k;
    second-sound = l;
    has-gap = pair-gap;
    numbers-are = e;
    fraction-is = spacing-fraction G H w e;
    sized = spacing-sized G H first-shape second-shape w e;
  }

  -- the box about G and the cart, and that about the record, show that the pair is not nearer than what is kept
  pub left_out : (f : ℕ) {e : Extent} (s : Option Best) {g : List Point} → g ≡ G → Reaches g A e → LeftOut f b q e s → is_on f b q ≡ true
      → is_nearer (gap_of A (pair_at b p q)) s ≡ false
  unfolding gap_of
  left_out f {e} s {g} same x far on = far on A G a first-shape (subst (λ (ps : List Point). Reaches ps A e) same x)
