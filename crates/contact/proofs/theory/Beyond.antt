-- A way that has the box about a shape on the other side of a line is apart from it.
--     past-apart         both ends are past a line that has all of a shape on its other side
--     by_first, both     two tests
--     beside-apart       both are past the box about it in a direction, or in the opposite one
--     grown-extends      the box about a grown obstacle: supports add
--     corner-small, opposite-small, step-opposite, way-small     the numbers on the way there
use Rattle.std.specs.Prelude.{◌≡◌, refl, Bool, true, false, cond, ◌&&◌, ◌||◌, List, [], ◌∷◌, ◌^◌, ◌<◌, ℤ, neg_ℤ, ◌+ℤ◌, ◌*ℤ◌, length, ◌≤ℤ◌}
use Rattle.std.specs.Prelude.{◌<ℤ◌}
use Rattle.std.proofs.Math.Path.{sym, ap₂}
use Rattle.std.proofs.Common.{◌∙◌, ap, subst, true≢false, arith, lit≤}
use Rattle.std.proofs.Math.IntN.{pos}
use Rattle.std.specs.Int.Signed.{lt_z}
use Rattle.integer.specs.Ring.{ring, reify}
use Rattle.integer.specs.Linear.{linear, lia, ◌&◌}
use Rattle.integer.specs.Order.{◌<×≤◌, ◌≤×≤◌, lt_z-true, lt_z-false}
use Rattle.integer.specs.Bound.{Within, within-widen, within-add, within-neg}
use Rattle.plane.specs.Limits.{max_coordinate}
use Rattle.plane.specs.Point.{Point, point, opposite, ◌⊕◌, ◌⊖◌, ◌∈◌}
use Rattle.plane.specs.Shape.{IsShape}
use Rattle.plane.specs.Direction.{value, support}
use Rattle.plane.specs.Corner.{mirrored}
use Rattle.plane.specs.Separation.{differences, apart}
use Rattle.plane.proofs.theory.lists.Members.{point-path, sums-some, mirrored-some}
use Rattle.plane.proofs.theory.forms.Vector.{opposite-opposite, value-turned}
use Rattle.plane.proofs.theory.support.Support.{value-le-support, support-attained, support-sums, support-mirrored}
use Rattle.plane.proofs.theory.hull.ShapeOf.{shape_of-support, shape_of-shape}
use Rattle.polygon.specs.declared.extent.Extent.{Extent}
use Rattle.polygon.specs.Point.{at, Small}
use Rattle.polygon.specs.Extent.{highest, Extends}
use Rattle.clearance.specs.theory.Common.{not-apart-common}
use Rattle.growth.specs.Grown.{grown}
use Rattle.motion.specs.Contact.{past}
use Rattle.motion.proofs.theory.Entry.{never}
use Rattle.motion.proofs.theory.Meeting.{meets→reached, common-met}
use Rattle.contact.specs.Share.{box_part, box_corner, is_past, is_beside}

-- the directions of the sides
abbrev right : Point
right = point (pos 1) (pos 0)

abbrev up : Point
up = point (pos 0) (pos 1)

module _ (t u : Point) (G : List Point) (s : IsShape G) where
  -- a place of the way that meets would be past the line as well
  pub past-apart : (e : Point) → pos 0 <ℤ past G e t → pos 0 <ℤ past G e u → apart (t ∷ u ∷ []) G ≡ true
  past-apart e a b = go (apart (t ∷ u ∷ []) G) refl
    where
      go : (x : Bool) → apart (t ∷ u ∷ []) G ≡ x → x ≡ true
      go true h = refl
      go false h =
          let (f, on, met) = common-met t u G s (not-apart-common (t ∷ u ∷ []) G (omega arith) s.some h) in
          absurd (never (past G e t) (past G e u) f on a b (meets→reached t u G s.some f on.whole met e))

  beyond-apart : (e : Point) → support e G <ℤ value e t → support e G <ℤ value e u → apart (t ∷ u ∷ []) G ≡ true
  unfolding past
  beyond-apart e a b = past-apart e (beyond t a) (beyond u b)
    where
      beyond : (p : Point) → support e G <ℤ value e p → pos 0 <ℤ past G e p
      beyond p h = lia (support e G ∷ value e p ∷ []) h (search linear depth 40) (omega arith)

-- two tests, by what the first one says
pub by_first : (y : Bool) {x z : Bool} → x ≡ z → (z && y) ≡ (x && y)
by_first y h = ap (λ (w : Bool). w && y) (sym h)

pub both : (a b : Bool) → (a && b) ≡ true → (a ≡ true) × (b ≡ true)
both true b h = (refl, h)
both false b h = absurd (true≢false (sym h))

-- ---- the box

right-value : (p : Point) → p.x ≡ value right p
unfolding value
right-value p = ring (p.x ∷ p.y ∷ []) (search reify depth 40) tt

up-value : (p : Point) → p.y ≡ value up p
unfolding value
up-value p = ring (p.x ∷ p.y ∷ []) (search reify depth 40) tt

-- a coordinate between its ends, times a number
part-reach : (d z h l : ℤ) → z ≤ℤ h → neg_ℤ z ≤ℤ l → (d *ℤ z) ≤ℤ (d *ℤ box_part d h l)
part-reach d z h l i j = go (lt_z d (pos 0)) refl
  where
    go : (b : Bool) → lt_z d (pos 0) ≡ b → (d *ℤ z) ≤ℤ (d *ℤ cond b (neg_ℤ l) h)
    go true e = lia (d ∷ z ∷ l ∷ []) (lt_z-true {x = d} {y = pos 0} e <×≤ j) (search linear depth 40) (omega arith)
    go false e = lia (d ∷ z ∷ h ∷ []) (lt_z-false {x = d} {y = pos 0} e ≤×≤ i) (search linear depth 40) (omega arith)

corner-reach : (d p h l : Point) → (p.x ≤ℤ h.x) × (neg_ℤ p.x ≤ℤ l.x) → (p.y ≤ℤ h.y) × (neg_ℤ p.y ≤ℤ l.y)
    → value d p ≤ℤ value d (box_corner h l d)
unfolding value
corner-reach d p h l i j =
    let x = part-reach d.x p.x h.x l.x i.0 i.1 in
    let y = part-reach d.y p.y h.y l.y j.0 j.1 in
    lia (d.x ∷ d.y ∷ p.x ∷ p.y ∷ box_part d.x h.x l.x ∷ box_part d.y h.y l.y ∷ []) (x & y) (search linear depth 40)
    (omega arith)

module _ (G : List Point) (some : 0 < length G) {e : Extent} (x : Extends G e) where
  -- a coordinate by the support in its direction, both ways
  between : (p a : Point) → p ∈ G → (v h l : ℤ) → v ≡ value a p → h ≡ support a G → l ≡ support a (mirrored G) → (v ≤ℤ h) × (neg_ℤ v ≤ℤ l)
  between p a m v h l i j k = (
    lia (v ∷ h ∷ value a p ∷ support a G ∷ []) (i & j & value-le-support a m) (search linear depth 40) (omega arith),
    lia (v ∷ l ∷ value a p ∷ value (opposite a) p ∷ support a (mirrored G) ∷ support (opposite a) G ∷ [])
        (i & k & value-turned a p & support-mirrored a G & value-le-support (opposite a) m) (search linear depth 40) (omega arith),
  )

  box-reach : (d : Point) → support d G ≤ℤ value d (box_corner (at e.high) (at e.low) d)
  unfolding highest
  box-reach d =
      let top = support-attained d G some in
      let p = top.at in
      let high = x.high_is in
      let low = x.low-is in
      lia (support d G ∷ value d p ∷ value d (box_corner (at e.high) (at e.low) d) ∷ []) (top.at_value
      & corner-reach d p (at e.high) (at e.low)
      (between p right top.at_in _ _ _ (right-value p) (ap (λ (q : Point). q.x) high) (ap (λ (q : Point). q.x) low))
      (between p up top.at_in _ _ _ (up-value p) (ap (λ (q : Point). q.y) high) (ap (λ (q : Point). q.y) low)))
      (search linear depth 40) (omega arith)

  module _ (t u : Point) (s : IsShape G) where
    box-apart : (d : Point) → is_past (at e.high) (at e.low) d t u ≡ true → apart (t ∷ u ∷ []) G ≡ true
    box-apart d k =
        let far = value d (box_corner (at e.high) (at e.low) d) in
        let (i, j) = both (lt_z far (value d t)) (lt_z far (value d u)) k in
        beyond-apart t u G s d (further (value d t) i) (further (value d u) j)
      where
        further : (v : ℤ) → lt_z (value d (box_corner (at e.high) (at e.low) d)) v ≡ true → support d G <ℤ v
        further v h =
            let far = value d (box_corner (at e.high) (at e.low) d) in
            lia (support d G ∷ far ∷ v ∷ []) (box-reach d & lt_z-true {x = far} {y = v} h) (search linear depth 40) (omega arith)

    pub beside-apart : (d : Point) → is_beside (at e.high) (at e.low) d t u ≡ true → apart (t ∷ u ∷ []) G ≡ true
    beside-apart d k = go (is_past (at e.high) (at e.low) d t u) refl k
      where
        go : (b : Bool) → is_past (at e.high) (at e.low) d t u ≡ b → (b || is_past (at e.high) (at e.low) (opposite d) t u) ≡ true
            → apart (t ∷ u ∷ []) G ≡ true
        go true h k = box-apart d h
        go false h k = box-apart (opposite d) k

-- ---- a grown obstacle

module _ (B A : List Point) (some : 0 < length B) (any : 0 < length A) where
  all-some : 0 < length (differences B A)
  all-some = sums-some B (mirrored A) some (mirrored-some A any)

  pub grown-shape : IsShape (grown B A)
  unfolding grown
  grown-shape = shape_of-shape (differences B A) all-some

  reach : (d : Point) → support d B +ℤ support d (mirrored A) ≡ support d (grown B A)
  unfolding grown
  reach d = sym (shape_of-support (differences B A) all-some d ∙ support-sums d B (mirrored A) some (mirrored-some A any))

  -- the other way
  reach-back : (d : Point) → support d (mirrored B) +ℤ support d A ≡ support d (mirrored (grown B A))
  reach-back d = ap₂ (λ x y. x +ℤ y) (support-mirrored d B) (ap (λ (a : Point). support a A) (sym (opposite-opposite d))
      ∙ sym (support-mirrored (opposite d) A)) ∙ reach (opposite d) ∙ sym (support-mirrored d (grown B A))

  -- its box from the boxes of both
  pub grown-extends : {e f r : Extent} → Extends B e → Extends A f → at r.high ≡ at e.high ⊕ at f.low
      → at r.low ≡ at e.low ⊕ at f.high → Extends (grown B A) r
  unfolding highest
  grown-extends x y i j = record {
    high_is = i ∙ ap₂ ◌⊕◌ x.high_is y.low-is ∙ point-path (reach right) (reach up);
    low-is = j ∙ ap₂ ◌⊕◌ x.low-is y.high_is ∙ point-path (reach-back right) (reach-back up);
  }

-- ---- numbers

pub corner-small : {h l : Point} (d : Point) → Small (2 ^ 22) h → Small (2 ^ 22) l → Small (2 ^ 22) (box_corner h l d)
corner-small {h} {l} d s r = record {
  small-x = part (lt_z d.x (pos 0)) s.small-x r.small-x;
  small-y = part (lt_z d.y (pos 0)) s.small-y r.small-y;
}
  where
    part : (b : Bool) {x y : ℤ} → Within (2 ^ 22) x → Within (2 ^ 22) y → Within (2 ^ 22) (cond b (neg_ℤ y) x)
    part true i j = within-neg j
    part false i j = i

pub opposite-small : {p q : Point} → q ≡ opposite p → Small (2 ^ 21) p → Small (2 ^ 21) q
opposite-small e s = subst (Small (2 ^ 21)) (sym e) (record { small-x = within-neg s.small-x; small-y = within-neg s.small-y })

-- a step from the opposite of a point
pub step-opposite : (p q : Point) {r s : Point} → r ≡ opposite p → s ≡ q ⊖ r → s ≡ q ⊕ p
step-opposite p q e f = f ∙ ap (λ (z : Point). q ⊖ z) e ∙ ap (λ (z : Point). q ⊕ z) (opposite-opposite p)

-- a normal of the way
pub way-small : {t u d : Point} → Small max_coordinate t → Small max_coordinate u → d ≡ u ⊖ t → Small (2 ^ 21) d
unfolding max_coordinate
way-small {t} {u} p q e = subst (Small (2 ^ 21)) (sym e) (record {
  small-x = within-widen (lit≤ tt) (within-add q.small-x (within-neg p.small-x));
  small-y = within-widen (lit≤ tt) (within-add q.small-y (within-neg p.small-y));
})
