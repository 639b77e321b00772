-- Along and across a segment from w to d; points that have the origin as a mean.
--     e w d                          the step from w to d
--     value-end .. cross-turn        values and products with it; `by-edge`: a value by the parts along it and across it
--     ZeroMean S                     some points of S have the origin as a mean
--     no-parts                       a vector with neither a part along e nor one across it is zero
--     one-sided                      where all of S is on one side of the origin, the origin is no mean
use Rattle.std.specs.Prelude.{◌≡◌, List, [], ◌∷◌, ℤ, pos, neg_ℤ, ◌+ℤ◌, ◌-ℤ◌, ◌*ℤ◌, ◌≤ℤ◌, ◌<ℤ◌}
use Rattle.std.proofs.Common.{◌∙◌, ap, arith}
use Rattle.integer.specs.Ring.{ring, reify}
use Rattle.integer.specs.Linear.{linear, lia, ◌&◌}
use Rattle.integer.specs.Order.{◌<×<◌, ◌≤×≤◌, ◌≡×◌}
use Rattle.plane.specs.Point.{Point, origin, ◌⊕◌, ◌⊖◌, ◌∈◌}
use Rattle.plane.specs.Turn.{turn, cross}
use Rattle.plane.specs.Direction.{value}
use Rattle.plane.specs.Mean.{times}
use Rattle.plane.proofs.theory.lists.Members.{point-discrete}
use Rattle.plane.proofs.theory.forms.Vector.{value-origin, square-positive}

-- ---- values and products along the segment from w to d

module _ (w d : Point) where
  abbrev pub e : Point
  e = d ⊖ w

  pub value-end : value e d ≡ value d d -ℤ value w d
  unfolding value
  value-end = ring (w.x ∷ w.y ∷ d.x ∷ d.y ∷ []) (search reify depth 40) tt

  pub value-start : value e w ≡ value w d -ℤ value w w
  unfolding value
  value-start = ring (w.x ∷ w.y ∷ d.x ∷ d.y ∷ []) (search reify depth 40) tt

  pub cross-end : cross e d ≡ neg_ℤ (cross w d)
  unfolding cross
  cross-end = ring (w.x ∷ w.y ∷ d.x ∷ d.y ∷ []) (search reify depth 40) tt

  pub cross-start : cross e w ≡ neg_ℤ (cross w d)
  unfolding cross
  cross-start = ring (w.x ∷ w.y ∷ d.x ∷ d.y ∷ []) (search reify depth 40) tt

  pub cross-turn : (x : Point) → turn w d x ≡ cross e x +ℤ cross w d
  unfolding cross turn
  cross-turn x = ring (w.x ∷ w.y ∷ d.x ∷ d.y ∷ x.x ∷ x.y ∷ []) (search reify depth 40) tt

pub value-mean : (n x p : Point) (s t : ℤ) → value n (times s x ⊕ times t p) ≡ s *ℤ value n x +ℤ t *ℤ value n p
unfolding value
value-mean n x p s t = ring (n.x ∷ n.y ∷ x.x ∷ x.y ∷ p.x ∷ p.y ∷ s ∷ t ∷ []) (search reify depth 40) tt

pub cross-mean : (n x p : Point) (s t : ℤ) → cross n (times s x ⊕ times t p) ≡ s *ℤ cross n x +ℤ t *ℤ cross n p
unfolding cross
cross-mean n x p s t = ring (n.x ∷ n.y ∷ x.x ∷ x.y ∷ p.x ∷ p.y ∷ s ∷ t ∷ []) (search reify depth 40) tt

pub by-edge : (e u z : Point) → value e u *ℤ value e z +ℤ cross e u *ℤ cross e z ≡ value e e *ℤ value u z
unfolding value cross
by-edge e u z = ring (e.x ∷ e.y ∷ u.x ∷ u.y ∷ z.x ∷ z.y ∷ []) (search reify depth 40) tt

-- ---- points of the set that have the origin as a mean

pub record ZeroMean (S : List Point) : Type 0 where
  pub first : Point
  pub second : Point
  pub third : Point
  pub fourth : Point
  pub members : (first ∈ S) × (second ∈ S) × (third ∈ S) × (fourth ∈ S)
  pub a : ℤ
  pub b : ℤ
  pub c : ℤ
  pub d : ℤ
  pub weights : (pos 0 ≤ℤ a) × (pos 0 ≤ℤ b) × (pos 0 ≤ℤ c) × (pos 0 ≤ℤ d)
  pub some : pos 0 <ℤ (a +ℤ b +ℤ (c +ℤ d))
  pub zero : (times a first ⊕ times b second) ⊕ (times c third ⊕ times d fourth) ≡ origin

pub value-four : (n p q r s : Point) (a b c d : ℤ) → value n ((times a p ⊕ times b q) ⊕ (times c r ⊕ times d s))
    ≡ a *ℤ value n p +ℤ b *ℤ value n q +ℤ (c *ℤ value n r +ℤ d *ℤ value n s)
unfolding value
value-four n p q r s a b c d = ring (n.x ∷ n.y ∷ p.x ∷ p.y ∷ q.x ∷ q.y ∷ r.x ∷ r.y ∷ s.x ∷ s.y ∷ a ∷ b ∷ c ∷ d ∷ [])
    (search reify depth 40) tt

pub cross-four : (n p q r s : Point) (a b c d : ℤ) → cross n ((times a p ⊕ times b q) ⊕ (times c r ⊕ times d s))
    ≡ a *ℤ cross n p +ℤ b *ℤ cross n q +ℤ (c *ℤ cross n r +ℤ d *ℤ cross n s)
unfolding cross
cross-four n p q r s a b c d = ring (n.x ∷ n.y ∷ p.x ∷ p.y ∷ q.x ∷ q.y ∷ r.x ∷ r.y ∷ s.x ∷ s.y ∷ a ∷ b ∷ c ∷ d ∷ [])
    (search reify depth 40) tt

-- a vector with neither a part along e nor one across it
pub no-parts : (e v : Point) → pos 0 <ℤ value e e → value e v ≡ pos 0 → cross e v ≡ pos 0 → v ≡ origin
no-parts e v some h k = go (point-discrete v origin)
  where
    go : Dec (v ≡ origin) → v ≡ origin
    go (yes r) = r
    go (no r) = absurd (lia (value e e ∷ value e v ∷ cross e v ∷ value v v ∷ [])
        (by-edge e v v & h ≡× value e v & k ≡× cross e v & some <×< square-positive v (record { non_zero = r }))
        (search linear depth 40) (omega arith))

-- not where all are on one side of the origin
pub one-sided : (S : List Point) (u : Point) → ((x : Point) → x ∈ S → pos 0 <ℤ value u x) → ZeroMean S → ⊥
one-sided S u side r = lia (value u r.first ∷ value u r.second ∷ value u r.third ∷ value u r.fourth
    ∷ r.a ∷ r.b ∷ r.c ∷ r.d ∷ value u sum ∷ [])
    (r.some & value-four u r.first r.second r.third r.fourth r.a r.b r.c r.d & ap (value u) r.zero
    ∙ value-origin u
    & r.weights.0 ≤×≤ above _ r.members.0 & r.weights.1 ≤×≤ above _ r.members.1
    & r.weights.2 ≤×≤ above _ r.members.2 & r.weights.3 ≤×≤ above _ r.members.3) (search linear depth 40) (omega arith)
  where
    sum : Point
    sum = (times r.a r.first ⊕ times r.b r.second) ⊕ (times r.c r.third ⊕ times r.d r.fourth)

    above : (x : Point) → x ∈ S → pos 1 ≤ℤ value u x
    above x m = lia (value u x ∷ []) (side x m) (search linear depth 40) (omega arith)
