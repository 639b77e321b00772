-- How the code finds the passage: by a direction in which the grown obstacles face each other.
--     facing-some          a direction in which two shapes face each other is not (0,0)
--     facing-name          in lowest terms it is that of their widest gap
--     grown-valid          a grown obstacle that 6 and 7 let pass is a shape that may be asked about
--     corridor-passage     the widest corridor between the grown obstacles is the passage
use Rattle.std.specs.Prelude.{◌≡◌, true, cond, List, [], ◌∷◌, ℕ, ◌*◌, ◌<◌, ℤ, pos, ◌+ℤ◌, ◌*ℤ◌, length, ◌≤ℤ◌, ◌<ℤ◌}
use Rattle.std.proofs.Common.{sym, ◌∙◌, arith}
use Rattle.std.proofs.Math.Path.{ap, ap₂}
use Rattle.std.proofs.Math.IntN.{nat_abs}
use Rattle.integer.specs.Linear.{linear, lia, ◌&◌}
use Rattle.integer.specs.Order.{◌<×<◌, ◌<×≤◌, ◌≤×≤◌, ◌≡×◌, contra≤, weaken, le_trans}
use Rattle.plane.specs.Point.{Point, numbers}
use Rattle.plane.specs.Reply.{NoneApply}
use Rattle.plane.specs.Refusal.{Valid}
use Rattle.plane.specs.Shape.{IsShape}
use Rattle.plane.specs.Direction.{value, support}
use Rattle.plane.specs.Primitive.{primitive}
use Rattle.plane.specs.Measure.{root_below}
use Rattle.plane.specs.Output.{size_rows}
use Rattle.plane.specs.Separation.{apart}
use Rattle.plane.specs.Clearance.{top, bottom, nearest}
use Rattle.plane.specs.Forms.{NonZero}
use Rattle.plane.proofs.theory.lists.Flat.{points-numbers, numbers-length}
use Rattle.plane.proofs.theory.lists.Members.{member-position}
use Rattle.plane.proofs.theory.refusals.Accept.{few-corners, near→in_range}
use Rattle.plane.proofs.theory.forms.Vector.{value-nonneg, positive-non-zero}
use Rattle.plane.proofs.theory.forms.SameWay.{same-trans}
use Rattle.plane.proofs.theory.support.Support.{support-attained}
use Rattle.plane.proofs.theory.direction.Primitive.{primitive-same, primitive-common, primitive-only}
use Rattle.clearance.specs.Facing.{Facing}
use Rattle.clearance.specs.theory.First.{Held, facing-held, held-square, nearest-at}
use Rattle.clearance.specs.theory.Nearest.{nearest-is-whole}
use Rattle.strips.specs.Strip.{least, gap_in}
use Rattle.strips.specs.OwnDirection.{towards}
use Rattle.strips.proofs.theory.Spread.{least-attained}
use Rattle.growth.specs.Grown.{grown}
use Rattle.growth.proofs.theory.Places.{grown-shape}
use Rattle.passage.specs.Passage.{across, free_width, passage_numbers}
use Rattle.passage.specs.Corridor.{widest_of, corridor_numbers}
use Rattle.passage.proofs.theory.Gaps.{grown-low, grown-high}
use Rattle.passage.proofs.theory.Widest.{step-some, widest-same, widest-clearance}
use Rattle.passage.proofs.theory.Only.{as-wide-same}
use Rattle.passage.proofs.theory.Room.{room-gap}

-- ---- a direction in which two shapes face each other

-- t·t/M and g·g/N are both x/y, and k is at least t
held-wide : (t k M g N x y : ℤ) → pos 0 <ℤ t → t ≤ℤ k → pos 0 ≤ℤ N → pos 0 <ℤ y → x *ℤ M ≡ t *ℤ t *ℤ y → g *ℤ g *ℤ y ≡ x *ℤ N
    → (g *ℤ g *ℤ M) ≤ℤ (k *ℤ k *ℤ N)
held-wide t k M g N x y some more long whole at own =
    let square : (t *ℤ t) ≤ℤ (k *ℤ k) = lia (t ∷ k ∷ []) (more ≤×≤ more & some <×≤ more) (search linear depth 40) (omega arith) in
    let below : (t *ℤ t *ℤ N) ≤ℤ (k *ℤ k *ℤ N) = lia (t ∷ k ∷ N ∷ []) (square ≤×≤ long) (search linear depth 40) (omega arith) in
    le_trans (contra≤ (λ h. lia (t ∷ M ∷ g ∷ N ∷ x ∷ y ∷ []) (whole <×< h & at ≡× N & own ≡× M) (search linear depth 40) (omega arith)))
    below

module _ (A B : List Point) (s : IsShape A) (t : IsShape B) (h : apart A B ≡ true) (m : Point) (f : Facing A B m) where
  abbrev n : Point
  n = widest_of A B

  abbrev far : ℤ
  far = (facing-held f).0

  held : Held A B m far
  held = (facing-held f).1

  gap-held : far ≤ℤ gap_in m A B
  unfolding gap_in
  gap-held =
      let (p, p-in, low) = least-attained m A s.some in
      let high = support-attained m B t.some in
      let (i, i-in, i-is) = member-position p-in in
      let (j, j-in, j-is) = member-position high.at_in in
      let apart_by : (value m high.at +ℤ far) ≤ℤ value m p = rw (i-is, j-is) at (held.held i j i-in j-in) in
      lia (value m p ∷ value m high.at ∷ least m A ∷ support m B ∷ far ∷ []) (apart_by & low & high.at_value)
      (search linear depth 40) (omega arith)

  pub facing-some : NonZero m
  facing-some = positive-non-zero m m (held-square A B m far held)

  -- the gap in it is as wide as the widest
  pub facing-name : primitive m ≡ n
  facing-name = primitive-only (towards A B (nearest A B)) (primitive m) (step-some A B s t h) (primitive-common m facing-some)
      (same-trans (primitive-same m facing-some) (same-trans (as-wide-same A B s t h m facing-some
      (le_trans (weaken held.some) gap-held) (held-wide far (gap_in m A B) (value m m) (gap_in n A B) (value n n)
      (top A B (nearest A B)) (bottom A B (nearest A B)) held.some gap-held (value-nonneg n) (nearest-is-whole A B s t h)
      (nearest-at A B s.some t.some m f).at (widest-clearance A B s t h))) (widest-same A B s t h)))

-- ---- the grown obstacles

module _ (L R A : List Point) (l : 0 < length L) (r : 0 < length R) (a : 0 < length A) where
  abbrev G : List Point
  G = grown L A

  abbrev H : List Point
  H = grown R A

  abbrev gap : ℕ
  gap = nat_abs (gap_in (widest_of G H) G H)

  -- the numbers, by the two lines and the width
  abbrev told : ℤ → ℤ → ℕ → List ℤ
  told low high width =
      let n = widest_of G H in
      cond (apart G H) (pos 1 ∷ n.x ∷ n.y ∷ low ∷ high ∷ pos width ∷ []) (pos 0 ∷ [])

  width_is : root_below (gap * gap) (nat_abs (value (widest_of G H) (widest_of G H))) ≡ free_width L R A
  unfolding free_width across
  width_is = ap (λ z. root_below (nat_abs z * nat_abs z) (nat_abs (value (widest_of G H) (widest_of G H)))) (sym (room-gap L R A l r a))

  pub corridor-passage : corridor_numbers G H ≡ passage_numbers L R A
  unfolding across
  corridor-passage =
      let n = widest_of G H in
      ap (λ w. told (support n H) (least n G) w) width_is
      ∙ ap₂ (λ low high. told low high (free_width L R A)) (grown-low R A r a n) (grown-high L A l a n)

-- ---- the grown obstacle as a list

pub grown-valid : (B A : List Point) → 0 < length B → 0 < length A → NoneApply (size_rows (grown B A)) → Valid (numbers (grown B A))
grown-valid B A b a n = record {
  paired = omega (arith, numbers-length (grown B A));
  few = rw points-numbers (few-corners (grown B A) n.0);
  in_range = near→in_range _ n.1.0;
  shape = rw points-numbers (grown-shape B A b a);
}
