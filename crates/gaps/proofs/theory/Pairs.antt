-- The pairs of a floor, and the narrowest of them.
--     pairs-shapes        both records of a pair hold shapes
--     narrowest-first     the narrowest is the first of the least
--     apart-all           all pairs are apart exactly if the narrowest is
--     floor-first, none-nearer, earlier-further, floor-apart, floor-passes, drive-clear, plain-shape     the same of a log's floor
--     floor-in            the narrowest is one of the pairs
--     floor-drive         a drive is clear of the nearest shape exactly if its segment is apart from every grown one
--     point-grows-nothing grown by the point 0 0 a shape stays as it is
use Rattle.std.specs.Prelude.{◌≡◌, refl, Bool, true, false, ◌↔◌, ℕ, ◌<◌, ℤ, pos, ◌+ℤ◌, ◌*ℤ◌, length, ◌<ℤ◌, ◌≤ℤ◌}
use Rattle.std.proofs.Common.{sym, ◌∙◌, ap, arith}
use Rattle.std.proofs.Math.Path.{subst}
use mathlib.Core.List.Memᴰ
use mathlib.Core.List.{List, [], ◌∷◌, ◌++◌, map, Memᴰ}
use Rattle.integer.specs.Ring.{ring, reify}
use Rattle.integer.specs.Linear.{linear, lia}
use Rattle.plane.specs.Point.{Point, points, origin, opposite}
use Rattle.plane.specs.Refusal.{Valid}
use Rattle.plane.specs.Corner.{shape_of as corner_shape_of}
use Rattle.plane.specs.Shape.{IsShape}
use Rattle.plane.specs.Direction.{value, support}
use Rattle.plane.specs.Separation.{apart}
use Rattle.plane.specs.Clearance.{least_of}
use Rattle.plane.specs.Distance.{Fraction, distance}
use Rattle.plane.proofs.theory.lists.Sought.{true-not-false}
use Rattle.plane.proofs.theory.lists.Members.{sums-some}
use Rattle.plane.proofs.theory.support.Support.{support-one}
use Rattle.plane.proofs.theory.hull.ShapeOf.{shape_of-shape, shape_of-support}
use Rattle.clearance.specs.theory.Distance.{no_more-le, more_lt, no_more-refl, more-no_more, no_more-trans}
use Rattle.clearance.specs.theory.Distance.{distance_none, distance-zero, distance-whole}
use Rattle.growth.specs.Grown.{driven}
use Rattle.growth.proofs.Growing.{drive-is-apart-as-its-segment}
use Rattle.passage.specs.Passage.{passable}
use Rattle.journal.specs.Format.{records}
use Rattle.journal.specs.Reading.{damaged}
use Rattle.growth.proofs.theory.Alike.{alike-apart}
use Rattle.growth.proofs.theory.Places.{grown-shape, grown-known}
use Rattle.neighbours.specs.Nearest.{shape_of}
use Rattle.neighbours.specs.Settled.{FirstLeast, IsNearest}
use Rattle.neighbours.specs.theory.Least.{All, all_in, least_of-first}
use Rattle.neighbours.specs.theory.Near.{Whole, around-whole}
use Rattle.neighbours.specs.theory.Answers.{apart-all as answers_apart-all, all_apart as answers_all-apart}
use Rattle.gaps.specs.Gap.{Pair, the_pair, grown_of, pairs_of, gap_of, no_wider, narrowest, on_floor}
use Rattle.gaps.specs.Search.{HasGap}

-- both records of a pair hold shapes
abbrev pub Shapes : Pair → Type 0
Shapes p = Whole p.0 × Whole p.1

all_append : (ps qs : List Pair) → All Shapes ps → All Shapes qs → All Shapes (ps ++ qs)
all_append [] qs a b = b
all_append (p ∷ ps) qs a b = (a.0, all_append ps qs a.1 b)

pub pairs-shapes : (rs : List (List ℕ)) → All Whole rs → All Shapes (pairs_of rs)
pairs-shapes [] a = tt
pairs-shapes (r ∷ rs) a = all_append (map (λ s. (r, s)) rs) (pairs_of rs) (with_first rs a.1) (pairs-shapes rs a.1)
  where
    with_first : (ss : List (List ℕ)) → All Whole ss → All Shapes (map (λ s. (r, s)) ss)
    with_first [] k = tt
    with_first (s ∷ ss) k = ((a.0, k.0), with_first ss k.1)

module _ (A : List Point) (a : 0 < length A) where
  grown-whole : (r : List ℕ) → Whole r → IsShape (grown_of A r)
  unfolding grown_of
  grown-whole r w = grown-shape (shape_of r) A w.some a

  pub shapes-gap : (p : Pair) → Shapes p → HasGap A p
  unfolding gap_of
  shapes-gap p s = distance-whole (grown_of A p.0) (grown_of A p.1) (grown-whole p.0 s.0) (grown-whole p.1 s.1)

  pub narrowest-first : (ps : List Pair) (p : Pair) → All Shapes ps → narrowest A ps ≡ the_pair p → FirstLeast (no_wider A) ps p
  narrowest-first [] p k e = absurd (let z : ◌≡◌ {A = ℕ} 0 1 = cc e in let f : ⊥ = omega arith in f)
  narrowest-first (q ∷ ps) p k e =
      let same : least_of (no_wider A) q ps ≡ p = cc e in
      subst (FirstLeast (no_wider A) (q ∷ ps)) same (least_of-first (no_wider A) Shapes (λ x h. no_more-refl (gap_of A x))
      (λ x y g h e. more-no_more (gap_of A x) (gap_of A y) e)
      (λ x y z f g h e k. no_more-trans (gap_of A x) (gap_of A y) (gap_of A z) (shapes-gap x f) (shapes-gap y g) (shapes-gap z h) e k)
      q ps k)

  -- the grown shapes of a pair are apart
  abbrev apart_of : Pair → Bool
  apart_of p = apart (grown_of A p.0) (grown_of A p.1)

  zero-gap : (p q : Pair) → Shapes p → no_wider A p q ≡ true → apart_of q ≡ false → apart_of p ≡ false
  unfolding gap_of
  zero-gap p q s le e =
      let G = grown_of A p.0 in
      let H = grown_of A p.1 in
      let none = distance_none (grown_of A q.0) (grown_of A q.1) e in
      let n = subst (λ (f : Fraction). ((distance G H).numerator *ℤ f.denominator) ≤ℤ (f.numerator *ℤ (distance G H).denominator)) none
      (no_more-le (gap_of A p) (gap_of A q) le) in
      distance-zero G H (grown-whole p.0 s.0) (grown-whole p.1 s.1)
      (lia ((distance G H).numerator ∷ (distance G H).denominator ∷ []) n (search linear depth 40) (omega arith))

  pub apart-all : (ps : List Pair) (p : Pair) → All Shapes ps → narrowest A ps ≡ the_pair p → apart_of p ≡ true
      → (q : Pair) → Memᴰ q ps → apart_of q ≡ true
  apart-all ps p k e h q m = go (apart_of q) refl
    where
      first : FirstLeast (no_wider A) ps p
      first = narrowest-first ps p k e

      go : (t : Bool) → apart_of q ≡ t → apart_of q ≡ true
      go true x = x
      go false x =
          let here = subst (Memᴰ p) (sym first.is) (Memᴰ.append_right first.before (Memᴰ.head refl)) in
          true-not-false h (zero-gap p q (all_in Shapes ps k here) (first.none-less q m) x)

-- ---- the point 0 0

value-origin : (d : Point) → value d origin ≡ pos 0
unfolding value
value-origin d = ring (d.x ∷ d.y ∷ []) (search reify depth 40) tt

reaches : (B : List Point) (d : Point) → support d B ≡ support d B +ℤ support (opposite d) (origin ∷ [])
reaches B d =
    let none = support-one (opposite d) origin ∙ value-origin (opposite d) in
    lia (support d B ∷ support (opposite d) (origin ∷ []) ∷ []) none (search linear depth 40) (omega arith)

pub point-grows-nothing : (r : List ℕ) → Whole r → grown_of (origin ∷ []) r ≡ shape_of r
unfolding grown_of
point-grows-nothing r w =
    sym (grown-known (shape_of r) (origin ∷ []) w.some (omega arith) (shape_of r) w (reaches (shape_of r)))

-- ---- the floor of a log

module _ (A : List Point) (a : 0 < length A) (b : List ℕ) (f : ℕ) (sound : damaged (records b) ≡ false) where
  floor-whole : All Whole (on_floor f b)
  floor-whole = around-whole f 65536 (records b) sound

  pub drive-clear : (t u : Point) (r : List ℕ) → Memᴰ r (on_floor f b)
      → apart (driven A t u) (shape_of r) ≡ apart (t ∷ u ∷ []) (grown_of A r)
  unfolding grown_of
  drive-clear t u r m =
      let w = all_in Whole (on_floor f b) floor-whole m in
      drive-is-apart-as-its-segment A (shape_of r) a w.some t u

  -- the drive as a list that can be asked: apart goes by how far lists reach, so that a set's shape does for the set
  drive-shape : (t u : Point) (r : List ℕ) → Whole r → apart (corner_shape_of (driven A t u)) (shape_of r) ≡ apart (driven A t u)
      (shape_of r)
  drive-shape t u r w =
      let some = sums-some A (t ∷ u ∷ []) a (omega arith) in
      alike-apart (corner_shape_of (driven A t u)) (shape_of r) (driven A t u) (shape_of r) (record {
        first = (shape_of-shape (driven A t u) some).some;
        second = w.some;
        third = some;
        fourth = w.some;
        reach = λ d. ap (λ z. z +ℤ support (opposite d) (shape_of r)) (shape_of-support (driven A t u) some d);
      })

  pub floor-drive : (l : List ℤ) (t u : Point) (w : List ℕ) → Valid l → points l ≡ corner_shape_of (driven A t u)
      → IsNearest (points l) f 65536 b w → (apart (points l) (shape_of w) ≡ true)
      ↔ ((r : List ℕ) → Memᴰ r (on_floor f b) → apart (t ∷ u ∷ []) (grown_of A r) ≡ true)
  floor-drive l t u w v e near = (
    λ h r m. sym (same r m) ∙ answers_apart-all (points l) f 65536 b w near v.shape sound h r m,
    λ h. answers_all-apart (points l) f 65536 b w near v.shape sound (λ r m. same r m ∙ h r m),
  )
    where
      same : (r : List ℕ) → Memᴰ r (on_floor f b) → apart (points l) (shape_of r) ≡ apart (t ∷ u ∷ []) (grown_of A r)
      same r m = ap (λ (P : List Point). apart P (shape_of r)) e ∙ drive-shape t u r (all_in Whole (on_floor f b) floor-whole m)
          ∙ drive-clear t u r m

  module _ (p : Pair) (answer : narrowest A (pairs_of (on_floor f b)) ≡ the_pair p) where
    pub floor-first : FirstLeast (no_wider A) (pairs_of (on_floor f b)) p
    floor-first = narrowest-first A a (pairs_of (on_floor f b)) p (pairs-shapes (on_floor f b) floor-whole) answer

    pub floor-in : Memᴰ p (pairs_of (on_floor f b))
    floor-in = subst (Memᴰ p) (sym floor-first.is) (Memᴰ.append_right floor-first.before (Memᴰ.head refl))

    pub none-nearer : (q : Pair) → Memᴰ q (pairs_of (on_floor f b))
        → ((gap_of A p).numerator *ℤ (gap_of A q).denominator) ≤ℤ ((gap_of A q).numerator *ℤ (gap_of A p).denominator)
    none-nearer q m = no_more-le (gap_of A p) (gap_of A q) (floor-first.none-less q m)

    pub earlier-further : (first : FirstLeast (no_wider A) (pairs_of (on_floor f b)) p) (q : Pair) → Memᴰ q first.before
        → ((gap_of A p).numerator *ℤ (gap_of A q).denominator) <ℤ ((gap_of A q).numerator *ℤ (gap_of A p).denominator)
    earlier-further first q m = more_lt (gap_of A q) (gap_of A p) (first.earlier_more q m)

    pub floor-apart : apart (grown_of A p.0) (grown_of A p.1) ≡ true → (q : Pair) → Memᴰ q (pairs_of (on_floor f b))
        → apart (grown_of A q.0) (grown_of A q.1) ≡ true
    floor-apart h q m = apart-all A a (pairs_of (on_floor f b)) p (pairs-shapes (on_floor f b) floor-whole) answer h q m

    pub floor-passes : passable (shape_of p.0) (shape_of p.1) A ≡ true → (q : Pair) → Memᴰ q (pairs_of (on_floor f b))
        → passable (shape_of q.0) (shape_of q.1) A ≡ true
    unfolding grown_of
    floor-passes h q m = floor-apart h q m

pub plain-shape : (b : List ℕ) (f : ℕ) → damaged (records b) ≡ false → (r : List ℕ) → Memᴰ r (on_floor f b)
    → grown_of (origin ∷ []) r ≡ shape_of r
plain-shape b f sound r m = point-grows-nothing r (all_in Whole (on_floor f b) (around-whole f 65536 (records b) sound) m)
