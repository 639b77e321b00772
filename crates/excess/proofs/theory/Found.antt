-- What is found of one corner, by the numbers that clearance gives for it.
--     corner-valid       a corner of a valid list is a valid list by itself
--     Found p O k d      d has the numbers of the candidate k of the point p and the shape O
--     point-found        so has what is found where p is apart from O
--     found-rounded      its millimetres are rounded down
--     found-far, none-far      its fraction is the distance; 0 if p is not apart from O
--     far-further, far-no-further     fractions compare as distances do
--     found_up           with its millimetres rounded up it is what is answered of the outermost corner
use Rattle.std.specs.Prelude.{◌≡◌, refl, true, false, List, [], ◌∷◌, ℕ, zero, suc, ◌*◌, ◌<◌, ◌≤◌, ℤ, ◌*ℤ◌, length, get_or}
use Rattle.std.specs.Prelude.{◌≤ℤ◌, ◌<ℤ◌}
use Rattle.std.proofs.Math.Path.{sym, ap, ap₂}
use Rattle.std.proofs.Common.{◌∙◌, subst, mul-one, arith, lt-ltb, lit≤}
use Rattle.std.proofs.Math.IntN.{pos, nat_abs}
use Rattle.integer.specs.Linear.{linear, lia, ◌&◌}
use Rattle.integer.specs.Order.{◌<×<◌, ◌≤×<◌, ◌≡×◌, contra<, contra≤, lt_z-true, lt_z-false}
use Rattle.integer.specs.Bound.{Within, nat_abs-*, size-square, positive-size}
use Rattle.plane.specs.Limits.{max_corners, max_coordinate}
use Rattle.plane.specs.Point.{Point, points, numbers, corner}
use Rattle.plane.specs.Shape.{IsShape}
use Rattle.plane.specs.Refusal.{Valid}
use Rattle.plane.specs.Measure.{squared, edge_squared, root_below}
use Rattle.plane.specs.Separation.{apart}
use Rattle.plane.specs.Clearance.{Candidate, corners, on_second, turn_on, top, bottom, nearest, numbers_of}
use Rattle.plane.specs.Distance.{Fraction, over}
use Rattle.plane.proofs.theory.lists.Flat.{points_near}
use Rattle.measure.specs.theory.Rounded.{root-square-over}
use Rattle.clearance.specs.Answer.{values_of}
use Rattle.clearance.specs.declared.measured.Distance.{Distance}
use Rattle.clearance.specs.theory.Nearest.{nearest-is-whole}
use Rattle.growth.proofs.theory.Places.{point-shape}
use Rattle.excess.specs.Excess.{beyond, no_nearer, outermost, excess, root_above, up, corner_numbers}
use Rattle.excess.specs.Answer.{far_of, HasFar, is_further, RoundedDown, up_numbers}
use Rattle.excess.specs.declared.outermost.Far.{Far}
use Rattle.excess.proofs.theory.Beyond.{beyond-whole, beyond-none, beyond-apart, beyond-positive}
use Rattle.excess.proofs.theory.Outermost.{le-no_nearer, lt-nearer}
use Rattle.excess.proofs.theory.Rounded.{root_above-square-over}
use Rattle.excess.proofs.theory.Kinds.{Kind, at-corner, at_edge, point-kind}

-- ---- a corner by itself

one-corner : 1 ≤ max_corners
unfolding max_corners
one-corner = lit≤ tt

pub corner-valid : (l : List ℤ) → Valid l → (i : ℕ) → i < length (points l) → {p : Point} → p ≡ corner (points l) i
    → Valid (numbers (p ∷ []))
corner-valid l v i h {p} e = rw e (record {
  paired = refl;
  few = one-corner;
  in_range = record { near = near };
  shape = point-shape (corner (points l) i);
})
  where
    near : (k : ℕ) → k < 2 → Within max_coordinate (get_or (numbers (corner (points l) i ∷ [])) k (pos 0))
    near zero m = (points_near l v.in_range i h).near-x
    near (suc zero) m = (points_near l v.in_range i h).near-y
    near (suc (suc k)) m = absurd (omega arith)

-- ---- what is found

pub data Found (p : Point) (O : List Point) : Candidate → Distance → Type 0 where
  found-corner : (j i m d w : ℕ) → m ≡ j → squared p (corner O j) ≡ pos d → 0 < d → w ≡ root_below d 1
      → Found p O (corners 0 j) (Distance.Corners i m d w)
  found-edge : (e i m t q w : ℕ) → m ≡ e → nat_abs (turn_on O e p) ≡ t → edge_squared O e ≡ pos q → 0 < q → w ≡ root_below (t * t) q
      → Found p O (on_second 0 e) (Distance.OnSecond i m t q w)

-- two lists that begin with different numbers
other-kind : {A : Type 0} (m n : ℕ) {x y : List ℤ} → pos m ∷ x ≡ pos n ∷ y → (m ≡ n → ⊥) → A
other-kind m n e k = absurd (k (cc e))

module _ (p : Point) (O : List Point) (s : IsShape O) where
  by_kind : (k : Candidate) → Kind p O k → pos 0 <ℤ top (p ∷ []) O k → pos 0 <ℤ bottom (p ∷ []) O k → (d : Distance)
      → values_of d ≡ numbers_of (p ∷ []) O k → Found p O k d
  unfolding top bottom
  by_kind k (at-corner j l) high whole (Distance.Corners i m d w) e =
      let square : pos d ≡ squared p (corner O j) = cc e in
      let rounded : w ≡ root_below (nat_abs (squared p (corner O j))) 1 = cc e in
      found-corner j i m d w (cc e) (sym square) (positive-size (rw (sym square) at high))
      (rounded ∙ ap (λ z. root_below (nat_abs z) 1) (sym square))
  by_kind k (at-corner j l) high whole (Distance.OnSecond i m t q w) e = other-kind 2 1 e (λ z. omega arith)
  by_kind k (at-corner j l) high whole (Distance.OnFirst i m t q w) e = other-kind 3 1 e (λ z. omega arith)
  by_kind k (at_edge j l f) high whole (Distance.Corners i m d w) e = other-kind 1 2 e (λ z. omega arith)
  by_kind k (at_edge j l f) high whole (Distance.OnSecond i m t q w) e =
      let size : t ≡ nat_abs (turn_on O j p) = cc e in
      let long : pos q ≡ edge_squared O j = cc e in
      let rounded : w ≡ root_below (nat_abs (turn_on O j p) * nat_abs (turn_on O j p)) (nat_abs (edge_squared O j)) = cc e in
      found-edge j i m t q w (cc e) (sym size) (sym long) (positive-size (rw (sym long) at whole))
      (rounded ∙ ap₂ (λ x z. root_below (x * x) (nat_abs z)) (sym size) (sym long))
  by_kind k (at_edge j l f) high whole (Distance.OnFirst i m t q w) e = other-kind 3 2 e (λ z. omega arith)

  pub point-found : apart (p ∷ []) O ≡ true → (d : Distance) → values_of d ≡ numbers_of (p ∷ []) O (nearest (p ∷ []) O)
      → Found p O (nearest (p ∷ []) O) d
  point-found h d e = by_kind (nearest (p ∷ []) O) (point-kind p O s h) (rw (beyond-apart p O s h) at (beyond-positive p O s h))
      (nearest-is-whole (p ∷ []) O (point-shape p) s h) d e

pub found-rounded : {p : Point} {O : List Point} {k : Candidate} {d : Distance} → Found p O k d → RoundedDown d
found-rounded (found-corner j i m d w at far some root) = (some, root ∙ sym (root-square-over d some))
found-rounded (found-edge e i m t q w at turn long some root) = (some, root)

-- ---- the distance as t·t/q

module _ (N O : List Point) (s : IsShape O) (i : ℕ) where
  by-found : {k : Candidate} {d : Distance} → Found (corner N i) O k d
      → beyond (corner N i) O ≡ over (top (corner N i ∷ []) O k) (bottom (corner N i ∷ []) O k) → HasFar N O i (far_of i d)
  unfolding top bottom
  by-found (found-corner j a m d w at far some root) e = record {
    corner-is = refl;
    whole = some;
    as-far = rw (e, far) (ap pos (mul-one (d * d)));
  }
  by-found (found-edge j a m t q w at turn long some root) e = record {
    corner-is = refl;
    whole = some;
    as-far = rw (e, long) (ap (λ z. z *ℤ pos q) (ap (λ x. pos x *ℤ pos x) (sym turn) ∙ size-square (turn_on O j (corner N i))));
  }

  module _ {p : Point} (at : p ≡ corner N i) where
    pub found-far : apart (p ∷ []) O ≡ true → (d : Distance) → values_of d ≡ numbers_of (p ∷ []) O (nearest (p ∷ []) O) → {r : Far}
        → r ≡ far_of i d → HasFar N O i r
    found-far h d e is =
        let here : apart (corner N i ∷ []) O ≡ true = ap (λ x. apart (x ∷ []) O) (sym at) ∙ h in
        subst (HasFar N O i) (sym is) (by-found (point-found (corner N i) O s here d
        (e ∙ ap (λ x. numbers_of (x ∷ []) O (nearest (x ∷ []) O)) at)) (beyond-apart (corner N i) O s here))

    pub none-far : apart (p ∷ []) O ≡ false → HasFar N O i (record { corner = i; ratio = record { turn = 0; squared = 1 } })
    none-far h = record {
      corner-is = refl;
      whole = omega arith;
      as-far = rw (beyond-none (corner N i) O s (ap (λ x. apart (x ∷ []) O) (sym at) ∙ h)) refl;
    }

-- T/q is f and U/r is g
module _ (T q U r : ℤ) (f g : Fraction) (f-whole : pos 0 <ℤ f.denominator) (g-whole : pos 0 <ℤ g.denominator) (hq : pos 0 <ℤ q)
    (hr : pos 0 <ℤ r) (a : T *ℤ f.denominator ≡ f.numerator *ℤ q) (b : U *ℤ g.denominator ≡ g.numerator *ℤ r) where
  abbrev atoms : List ℤ
  atoms = T ∷ q ∷ U ∷ r ∷ f.numerator ∷ f.denominator ∷ g.numerator ∷ g.denominator ∷ []

  below : pos 0 <ℤ (f.denominator *ℤ g.denominator)
  below = lia (f.denominator ∷ g.denominator ∷ []) (f-whole <×< g-whole) (search linear depth 40) (omega arith)

  under : pos 0 <ℤ (q *ℤ r)
  under = lia (q ∷ r ∷ []) (hq <×< hr) (search linear depth 40) (omega arith)

  fraction-lt : (T *ℤ r) <ℤ (U *ℤ q) → (f.numerator *ℤ g.denominator) <ℤ (g.numerator *ℤ f.denominator)
  fraction-lt h = contra< (λ k. lia atoms (h <×< below & k ≤×< under & a ≡× (r *ℤ g.denominator) & b ≡× (q *ℤ f.denominator))
      (search linear depth 40) (omega arith))

  fraction-le : (T *ℤ r) ≤ℤ (U *ℤ q) → (f.numerator *ℤ g.denominator) ≤ℤ (g.numerator *ℤ f.denominator)
  fraction-le h = contra≤ (λ k. lia atoms (h ≤×< below & k <×< under & a ≡× (r *ℤ g.denominator) & b ≡× (q *ℤ f.denominator))
      (search linear depth 40) (omega arith))

module _ (N O : List Point) (s : IsShape O) {i j : ℕ} {a b : Far} (f : HasFar N O i a) (g : HasFar N O j b) where
  whole : {k : ℕ} {r : Far} → HasFar N O k r → pos 0 <ℤ pos r.ratio.squared
  whole {k} {r} h = lt_z-true {x = pos 0} {y = pos r.ratio.squared} (lt-ltb 0 r.ratio.squared h.whole)

  pub far-further : is_further a b ≡ true → no_nearer N O i j ≡ false
  far-further h =
      let p = a.ratio in
      let q = b.ratio in
      lt-nearer N O i j (fraction-lt (pos (p.turn * p.turn)) (pos p.squared) (pos (q.turn * q.turn)) (pos q.squared)
      (beyond (corner N i) O) (beyond (corner N j) O) (beyond-whole (corner N i) O s) (beyond-whole (corner N j) O s) (whole f) (whole g)
      f.as-far g.as-far (lt_z-true {x = pos (p.turn * p.turn * q.squared)} {y = pos (q.turn * q.turn * p.squared)} h))

  pub far-no-further : is_further a b ≡ false → no_nearer N O i j ≡ true
  far-no-further h =
      let p = a.ratio in
      let q = b.ratio in
      le-no_nearer N O i j (fraction-le (pos (q.turn * q.turn)) (pos q.squared) (pos (p.turn * p.turn)) (pos p.squared)
      (beyond (corner N j) O) (beyond (corner N i) O) (beyond-whole (corner N j) O s) (beyond-whole (corner N i) O s) (whole g) (whole f)
      g.as-far f.as-far (lt_z-false {x = pos (p.turn * p.turn * q.squared)} {y = pos (q.turn * q.turn * p.squared)} h))

-- ---- rounded up

module _ (N O : List Point) (s : IsShape O) where
  abbrev c : ℕ
  c = outermost N O

  up_of : {f : Fraction} → beyond (corner N c) O ≡ f → up N O ≡ root_above (nat_abs f.numerator) (nat_abs f.denominator)
  unfolding up excess
  up_of e = ap (λ f. root_above (nat_abs f.numerator) (nat_abs f.denominator)) e

  by-up : {k : Candidate} {d : Distance} → Found (corner N c) O k d
      → beyond (corner N c) O ≡ over (top (corner N c ∷ []) O k) (bottom (corner N c ∷ []) O k) → up_numbers c d ≡ corner_numbers N O c k
  unfolding top bottom
  by-up (found-corner j a m d w at far some root) e =
      let root_is : up N O ≡ root_above (d * d) d = up_of e ∙ ap (λ z. root_above (nat_abs z) 1) far ∙ sym (root_above-square-over d some)
      in
      ap₂ (λ n z. pos 1 ∷ pos c ∷ pos n ∷ z ∷ pos (root_above (d * d) d) ∷ []) at (sym far)
      ∙ ap (λ u. pos 1 ∷ pos c ∷ pos j ∷ squared (corner N c) (corner O j) ∷ pos u ∷ []) (sym root_is)
  by-up (found-edge j a m t q w at turn long some root) e =
      let z = turn_on O j (corner N c) in
      let root_is : up N O ≡ root_above (t * t) q = up_of e
      ∙ ap₂ (λ x y. root_above x (nat_abs y)) (nat_abs-* z z ∙ ap (λ x. x * x) turn) long in
      ap₂ (λ n x. pos 2 ∷ pos c ∷ pos n ∷ pos x ∷ pos q ∷ pos (root_above (t * t) q) ∷ []) at (sym turn)
      ∙ ap₂ (λ y u. pos 2 ∷ pos c ∷ pos j ∷ pos (nat_abs z) ∷ y ∷ pos u ∷ []) (sym long) (sym root_is)

  pub found_up : apart (corner N c ∷ []) O ≡ true → (d : Distance)
      → values_of d ≡ numbers_of (corner N c ∷ []) O (nearest (corner N c ∷ []) O)
      → up_numbers c d ≡ corner_numbers N O c (nearest (corner N c ∷ []) O)
  found_up h d e = by-up (point-found (corner N c) O s h d e) (beyond-apart (corner N c) O s h)
