-- Vectors that point the same way: some positive multiples of them are equal.
--     same-sym                          either way round; `same-trans`: and on to a third
--     same_up, same_left, same-right    the order by angle cannot tell them apart
--     from-same                         what follows the one in order follows the other
--     neither-same                      vectors that are not zero, neither before the other, point the same way
--     same-not-before, same-flat        neither is before the other, and there is no turn between them
--     same_sum, sum_same                so does their sum
--     same-non-zero                     if one is not zero, neither is the other
use Rattle.std.specs.Prelude.{◌≡◌, refl, Bool, true, false, List, [], ◌∷◌, ℤ, pos, ◌+ℤ◌, ◌*ℤ◌, ◌<ℤ◌, ◌≤ℤ◌}
use Rattle.std.proofs.Common.{sym, ◌∙◌, ap, subst, arith}
use Rattle.std.proofs.lemmas.Bool.{false≢true}
use Rattle.std.specs.Int.Signed.{lt_z, le_z, ≤ℤ_refl, <ℤ_irrefl}
use Rattle.integer.specs.Ring.{ring, reify}
use Rattle.integer.specs.Linear.{linear, lia, ◌&◌}
use Rattle.integer.specs.Order.{◌<×<◌, ◌<×≤◌, ◌≤×<◌, ◌≡×◌, le_antisym, contra<, contra≤, lt_z-true, lt_z-false, le_z-true, lt-lt_z, le-le_z}
use Rattle.plane.specs.Point.{Point, origin, ◌⊕◌, opposite}
use Rattle.plane.specs.Turn.{cross}
use Rattle.plane.specs.Shape.{precedes}
use Rattle.plane.specs.Direction.{SameWay}
use Rattle.plane.proofs.theory.lists.Sought.{tests_agree}
use Rattle.plane.specs.Forms.{up, before, NonZero, From}
use Rattle.plane.proofs.theory.lists.Members.{point-path}
use Rattle.plane.proofs.theory.forms.Precedes.{Lower, lower, level, precedes-lower}
use Rattle.plane.proofs.theory.forms.Vector.{⊕-comm, cross-swap, cross-opposite}
use Rattle.plane.proofs.theory.forms.HalfPlane.{Up, down-up}
use Rattle.plane.proofs.theory.forms.Angle.{Later, apart, alike, not-before→later, earlier→before, before-alike, before-irrefl}

abbrev pub same-sym : {e f : Point} → SameWay e f → SameWay f e
same-sym s =
    record { m = s.n; n = s.m; m-above = s.n-above; n-above = s.m-above; along-x = sym s.along-x; along-y = sym s.along-y }

pub same-trans : {e f g : Point} → SameWay e f → SameWay f g → SameWay e g
same-trans {e} {f} {g} s t = record {
  m = t.m *ℤ s.m;
  n = s.n *ℤ t.n;
  m-above = lia (s.m ∷ t.m ∷ []) (t.m-above <×< s.m-above) (search linear depth 40) (omega arith);
  n-above = lia (s.n ∷ t.n ∷ []) (s.n-above <×< t.n-above) (search linear depth 40) (omega arith);
  along-x = lia (s.m ∷ s.n ∷ t.m ∷ t.n ∷ e.x ∷ f.x ∷ g.x ∷ []) (s.along-x ≡× t.m & t.along-x ≡× s.n)
      (search linear depth 40) (omega arith);
  along-y = lia (s.m ∷ s.n ∷ t.m ∷ t.n ∷ e.y ∷ f.y ∷ g.y ∷ []) (s.along-y ≡× t.m & t.along-y ≡× s.n)
      (search linear depth 40) (omega arith);
}

-- ---- the order by angle cannot tell them apart

-- numbers whose multiples by the two numbers are equal have the same sign
module _ {e f : Point} (s : SameWay e f) (a b : ℤ) (q : s.m *ℤ a ≡ s.n *ℤ b) where
  scaled-lt : pos 0 <ℤ a → pos 0 <ℤ b
  scaled-lt h = contra< (λ g.
      lia (s.m ∷ s.n ∷ a ∷ b ∷ []) (q & s.m-above <×< h & g ≤×< s.n-above) (search linear depth 40) (omega arith))

  scaled-le : pos 0 ≤ℤ a → pos 0 ≤ℤ b
  scaled-le h = contra≤ (λ g.
      lia (s.m ∷ s.n ∷ a ∷ b ∷ []) (q & s.m-above <×≤ h & g <×< s.n-above) (search linear depth 40) (omega arith))

module _ {e f : Point} (s : SameWay e f) (a b : ℤ) (q : s.m *ℤ a ≡ s.n *ℤ b) where
  same-lt : lt_z (pos 0) a ≡ lt_z (pos 0) b
  same-lt = tests_agree _ _ (λ h. lt-lt_z (scaled-lt s a b q (lt_z-true {x = pos 0} {y = a} h)))
      (λ h. lt-lt_z (scaled-lt (same-sym s) b a (sym q) (lt_z-true {x = pos 0} {y = b} h)))

  same-le : le_z (pos 0) a ≡ le_z (pos 0) b
  same-le = tests_agree _ _ (λ h. le-le_z (scaled-le s a b q (le_z-true {x = pos 0} {y = a} h)))
      (λ h. le-le_z (scaled-le (same-sym s) b a (sym q) (le_z-true {x = pos 0} {y = b} h)))

pub same_up : {e f : Point} → SameWay e f → up e ≡ up f
unfolding precedes
same_up {e} {f} s =
    rw (same-lt s e.y f.y s.along-y, same-le s e.y f.y s.along-y, same-lt s e.x f.x s.along-x)

module _ {e f : Point} (s : SameWay e f) (x : Point) where
  abbrev atoms : List ℤ
  atoms = s.m ∷ s.n ∷ e.x ∷ e.y ∷ f.x ∷ f.y ∷ x.x ∷ x.y ∷ []

  same-cross : lt_z (pos 0) (cross e x) ≡ lt_z (pos 0) (cross f x)
  unfolding cross
  same-cross = same-lt s (cross e x) (cross f x)
      (lia atoms (s.along-x ≡× x.y & s.along-y ≡× x.x) (search linear depth 40) (omega arith))

  cross-same : lt_z (pos 0) (cross x e) ≡ lt_z (pos 0) (cross x f)
  unfolding cross
  cross-same = same-lt s (cross x e) (cross x f)
      (lia atoms (s.along-x ≡× x.y & s.along-y ≡× x.x) (search linear depth 40) (omega arith))

pub same_left : {e f : Point} → SameWay e f → (x : Point) → before e x ≡ before f x
unfolding before
same_left {e} {f} s x = rw (same_up s, same-cross s x)

pub same-right : {e f : Point} → SameWay e f → (x : Point) → before x e ≡ before x f
unfolding before
same-right {e} {f} s x = rw (same_up s, cross-same s x)

-- what follows an edge follows all that point the same way
pub from-same : {e f : Point} → SameWay e f → (E : List Point) → From e E → From f E
from-same s [] r = tt
from-same s (g ∷ E) r = (record { before-true = sym (same_left s g) ∙ r.0.before-true }, r.1, r.2)

-- ---- where they come from

-- two up vectors with no turn between them
up_same : {e f : Point} → Up e → Up f → cross e f ≡ pos 0 → SameWay e f
unfolding cross
up_same {e} {f} a b h = go (precedes-lower a) (precedes-lower b)
  where
    go : Lower origin e → Lower origin f → SameWay e f
    go (lower u) (lower v) = record {
      m = f.y;
      n = e.y;
      m-above = v;
      n-above = u;
      along-x = lia (e.x ∷ e.y ∷ f.x ∷ f.y ∷ []) h (search linear depth 40) (omega arith);
      along-y = ring (e.y ∷ f.y ∷ []) (search reify depth 40) tt;
    }
    go (lower u) (level c v) =
        absurd (lia (e.x ∷ e.y ∷ f.x ∷ f.y ∷ []) (h & c ≡× e.x & u <×< v) (search linear depth 40) (omega arith))
    go (level c u) (lower v) =
        absurd (lia (e.x ∷ e.y ∷ f.x ∷ f.y ∷ []) (h & c ≡× f.x & u <×< v) (search linear depth 40) (omega arith))
    go (level c u) (level d v) = record {
      m = f.x;
      n = e.x;
      m-above = v;
      n-above = u;
      along-x = ring (e.x ∷ f.x ∷ []) (search reify depth 40) tt;
      along-y = lia (e.x ∷ e.y ∷ f.x ∷ f.y ∷ []) (c ≡× f.x & d ≡× e.x) (search linear depth 40) (omega arith);
    }

opposite-same : {e f : Point} → SameWay (opposite e) (opposite f) → SameWay e f
opposite-same {e} {f} s = record {
  m = s.m;
  n = s.n;
  m-above = s.m-above;
  n-above = s.n-above;
  along-x = lia (s.m ∷ s.n ∷ e.x ∷ f.x ∷ []) s.along-x (search linear depth 40) (omega arith);
  along-y = lia (s.m ∷ s.n ∷ e.y ∷ f.y ∷ []) s.along-y (search linear depth 40) (omega arith);
}

-- both up, or turned about to be so
half-same : (half : Bool) (e f : Point) → up e ≡ half → up f ≡ half → NonZero e → NonZero f → cross e f ≡ pos 0 → SameWay e f
half-same true e f a b ne nf h = up_same (record { precedes-true = a }) (record { precedes-true = b }) h
half-same false e f a b ne nf h = opposite-same (up_same (down-up e ne a) (down-up f nf b) (cross-opposite e f ∙ h))

pub neither-same : (e f : Point) → before e f ≡ false → before f e ≡ false → NonZero e → NonZero f → SameWay e f
neither-same e f h k ne nf = go (not-before→later e f h) (not-before→later f e k)
  where
    go : Later e f → Later f e → SameWay e f
    go (apart a b) l = absurd (false≢true (sym k ∙ (earlier→before (apart b a)).before-true))
    go (alike a b) (apart c d) = absurd (false≢true (sym h ∙ (earlier→before (apart d c)).before-true))
    go (alike a b) (alike c d) = half-same (up f) e f a refl ne nf
        (lia (cross e f ∷ cross f e ∷ []) (b & d & cross-swap e f) (search linear depth 40) (omega arith))

not-before-self : (e : Point) → before e e ≡ false
not-before-self e = go (before e e) refl
  where
    go : (b : Bool) → before e e ≡ b → b ≡ false
    go true h = absurd (before-irrefl {e = e} (record { before-true = h }))
    go false h = refl

pub same-not-before : {e f : Point} → SameWay e f → (before e f ≡ false) × (before f e ≡ false)
same-not-before {e} {f} s = (same_left s f ∙ not-before-self f, same-right s f ∙ not-before-self f)

pub same-flat : {e f : Point} → SameWay e f → cross e f ≡ pos 0
same-flat {e} {f} s =
    let a = lt_z-false {x = pos 0} {y = cross e f} (sym (before-alike e f (same_up s)) ∙ (same-not-before s).0) in
    let b = lt_z-false {x = pos 0} {y = cross f e} (sym (before-alike f e (sym (same_up s))) ∙ (same-not-before s).1) in
    lia (cross e f ∷ cross f e ∷ []) (a & b & cross-swap e f) (search linear depth 40) (omega arith)

pub same_sum : {e f : Point} → SameWay e f → SameWay e (e ⊕ f)
same_sum {e} {f} s = record {
  m = s.m +ℤ s.n;
  n = s.n;
  m-above = lia (s.m ∷ s.n ∷ []) (s.m-above & s.n-above) (search linear depth 40) (omega arith);
  n-above = s.n-above;
  along-x = lia (s.m ∷ s.n ∷ e.x ∷ f.x ∷ []) s.along-x (search linear depth 40) (omega arith);
  along-y = lia (s.m ∷ s.n ∷ e.y ∷ f.y ∷ []) s.along-y (search linear depth 40) (omega arith);
}

pub sum_same : {e f : Point} → SameWay e f → SameWay f (e ⊕ f)
sum_same {e} {f} s = subst (λ (p : Point). SameWay f p) (⊕-comm f e) (same_sum (same-sym s))

pub same-non-zero : {e f : Point} → SameWay e f → NonZero e → NonZero f
same-non-zero {e} {f} s h = record {
  non_zero = λ k. h.non_zero (point-path
      (vanishes e.x (s.along-x ∙ ap (λ (p : Point). s.n *ℤ p.x) k))
      (vanishes e.y (s.along-y ∙ ap (λ (p : Point). s.n *ℤ p.y) k)));
}
  where
    vanishes : (a : ℤ) → s.m *ℤ a ≡ s.n *ℤ pos 0 → a ≡ pos 0
    vanishes a q = le_antisym
        (contra≤ (λ g. <ℤ_irrefl (scaled-lt s a (pos 0) q g)))
        (scaled-le (same-sym s) (pos 0) a (sym q) (≤ℤ_refl (pos 0)))
