-- Vectors of the upper half plane, level to the right included and level to the left not, and the turns between them.
--     Up e                  e is up
--     precedes→up, up→precedes        p precedes q exactly if the vector from p to q is up
--     precedes→down, down→precedes    q precedes p exactly if it is not, and is not zero
--     up-opposite           of e and -e, not zero, one is up; `down-up` if e is not; `up-clash`
--     cross-trans           "f is to the left of e" is transitive here; `cross-trans-weak` if the first step may be no turn,
--                           `cross-trans-half` in either half plane
-- The order of points is in `Precedes.antt`, the order by angle in `Angle.antt`.
use Rattle.std.specs.Prelude.{◌≡◌, refl, Bool, true, false, not, [], ◌∷◌, ℤ, pos, ◌+ℤ◌, ◌*ℤ◌, ◌≤ℤ◌, ◌<ℤ◌}
use Rattle.std.proofs.Common.{sym, ◌∙◌, ap, true≢false, arith}
use Rattle.integer.specs.Ring.{ring, reify}
use Rattle.integer.specs.Linear.{linear, lia, ◌&◌}
use Rattle.integer.specs.Order.{◌<×<◌, ◌<×≤◌, ◌≤×≤◌, ◌≡×◌, weaken, contra<, square-nonneg}
use Rattle.plane.specs.Point.{Point, origin, ◌⊖◌, opposite}
use Rattle.plane.specs.Turn.{cross}
use Rattle.plane.specs.Forms.{Precedes, up, NonZero}
use Rattle.plane.proofs.theory.forms.Vector.{⊖-self, cross-opposite, cross-nonzero}
use Rattle.plane.proofs.theory.forms.Precedes.{Lower, lower, level, precedes-lower, lower-precedes, precedes-asym, precedes-reversed}
use Rattle.plane.proofs.theory.forms.Precedes.{Placed, ahead, same, behind, placed, precedes-opposite}

-- ---- vectors up and down

-- up, as a fact
abbrev pub Up : Point → Type 0
Up e = Precedes origin e

pub precedes→up : {p q : Point} → Precedes p q → Up (q ⊖ p)
precedes→up {p} {q} a = lower-precedes (go (precedes-lower a))
  where
    go : Lower p q → Lower origin (q ⊖ p)
    go (lower h) = lower (lia (p.y ∷ q.y ∷ []) h (search linear depth 40) (omega arith))
    go (level e h) = level (lia (p.y ∷ q.y ∷ []) e (search linear depth 40) (omega arith))
        (lia (p.x ∷ q.x ∷ []) h (search linear depth 40) (omega arith))

pub up→precedes : (p q : Point) → Up (q ⊖ p) → Precedes p q
up→precedes p q a = lower-precedes (go (precedes-lower a))
  where
    go : Lower origin (q ⊖ p) → Lower p q
    go (lower h) = lower (lia (p.y ∷ q.y ∷ []) h (search linear depth 40) (omega arith))
    go (level e h) = level (lia (p.y ∷ q.y ∷ []) e (search linear depth 40) (omega arith))
        (lia (p.x ∷ q.x ∷ []) h (search linear depth 40) (omega arith))

pub up-clash : {e : Point} → Up e → up e ≡ false → ⊥
up-clash a b = true≢false (sym a.precedes-true ∙ b)

-- the vector from a to q is not up if q precedes a
pub precedes→down : {a q : Point} → Precedes q a → up (q ⊖ a) ≡ false
precedes→down {a} {q} u = go _ refl
  where
    go : (s : Bool) → up (q ⊖ a) ≡ s → up (q ⊖ a) ≡ false
    go true e = absurd (precedes-asym u (up→precedes a q (record { precedes-true = e })))
    go false e = e

pub down→precedes : (a q : Point) → NonZero (q ⊖ a) → up (q ⊖ a) ≡ false → Precedes q a
down→precedes a q n e = go (placed a q)
  where
    go : Placed a q → Precedes q a
    go (ahead u) = absurd (up-clash (precedes→up u) e)
    go (same p) = absurd (n.non_zero (rw p (⊖-self q)))
    go (behind u) = u

pub up-opposite : (e : Point) → NonZero e → up (opposite e) ≡ not (up e)
up-opposite e n = go (placed origin e)
  where
    go : Placed origin e → up (opposite e) ≡ not (up e)
    go (ahead h) = precedes-reversed (precedes-opposite h) ∙ ap not (sym h.precedes-true)
    go (same q) = absurd (n.non_zero (sym q))
    go (behind h) = (precedes-opposite h).precedes-true ∙ ap not (sym (precedes-reversed h))

pub down-up : (e : Point) → NonZero e → up e ≡ false → Up (opposite e)
down-up e n a = record { precedes-true = up-opposite e n ∙ ap not a }

-- ---- turns in the upper half plane

-- tilted far enough, the half plane has an up vector strictly inside: its value in direction (1, m) is positive
up-tilted : (e : Point) → Up e → (m : ℤ) → (e.x *ℤ e.x) <ℤ m → pos 0 <ℤ (e.x +ℤ m *ℤ e.y)
up-tilted e a m far = go (precedes-lower a)
  where
    go : Lower origin e → pos 0 <ℤ (e.x +ℤ m *ℤ e.y)
    go (lower h) =
        let low : pos 0 ≤ℤ m = lia (e.x ∷ m ∷ []) (far & square-nonneg e.x) (search linear depth 40) (omega arith) in
        let one : pos 1 ≤ℤ e.y = lia (e.y ∷ []) h (search linear depth 40) (omega arith) in
        lia (e.x ∷ e.y ∷ m ∷ []) (far & low ≤×≤ one & square-nonneg (pos 2 *ℤ e.x +ℤ pos 1)) (search linear depth 40) (omega arith)
    go (level g h) = lia (e.x ∷ e.y ∷ m ∷ []) (h & g ≡× m) (search linear depth 40) (omega arith)

tilted-cross : (m : ℤ) (e f g : Point)
    → (f.x +ℤ m *ℤ f.y) *ℤ cross e g ≡ (e.x +ℤ m *ℤ e.y) *ℤ cross f g +ℤ (g.x +ℤ m *ℤ g.y) *ℤ cross e f
unfolding cross
tilted-cross m e f g = ring (m ∷ e.x ∷ e.y ∷ f.x ∷ f.y ∷ g.x ∷ g.y ∷ []) (search reify depth 40) tt

-- a direction in which three up vectors have positive values a, b, c, and then what their cross products satisfy
record Tilted (e f g : Point) : Type 0 where
  a : ℤ
  b : ℤ
  c : ℤ
  a-pos : pos 0 <ℤ a
  b-pos : pos 0 <ℤ b
  c_pos : pos 0 <ℤ c
  balance : b *ℤ cross e g ≡ a *ℤ cross f g +ℤ c *ℤ cross e f

tilted : (e f g : Point) → Up e → Up f → Up g → Tilted e f g
tilted e f g ue uf ug =
    let m : ℤ = e.x *ℤ e.x +ℤ f.x *ℤ f.x +ℤ g.x *ℤ g.x +ℤ pos 1 in
    let squares = square-nonneg e.x & square-nonneg f.x & square-nonneg g.x in
    record {
      a = e.x +ℤ m *ℤ e.y;
      b = f.x +ℤ m *ℤ f.y;
      c = g.x +ℤ m *ℤ g.y;
      a-pos = up-tilted e ue m (lia (e.x ∷ f.x ∷ g.x ∷ []) squares (search linear depth 40) (omega arith));
      b-pos = up-tilted f uf m (lia (e.x ∷ f.x ∷ g.x ∷ []) squares (search linear depth 40) (omega arith));
      c_pos = up-tilted g ug m (lia (e.x ∷ f.x ∷ g.x ∷ []) squares (search linear depth 40) (omega arith));
      balance = tilted-cross m e f g;
    }

pub cross-trans-weak : {e f g : Point} → Up e → Up f → Up g
    → pos 0 ≤ℤ cross e f → pos 0 <ℤ cross f g → pos 0 <ℤ cross e g
cross-trans-weak {e} {f} {g} ue uf ug h k =
    let t = tilted e f g ue uf ug in
    contra< (λ n. lia (t.a ∷ t.b ∷ t.c ∷ cross e f ∷ cross f g ∷ cross e g ∷ [])
    (t.balance & t.a-pos <×< k & t.c_pos <×≤ h & t.b-pos <×≤ n) (search linear depth 40) (omega arith))

pub cross-trans : {e f g : Point} → Up e → Up f → Up g
    → pos 0 <ℤ cross e f → pos 0 <ℤ cross f g → pos 0 <ℤ cross e g
cross-trans ue uf ug h k = cross-trans-weak ue uf ug (weaken h) k

-- in the lower half plane: of the opposite vectors
pub cross-trans-half : (half : Bool) (e f g : Point) → up e ≡ half → up f ≡ half → up g ≡ half
    → pos 0 <ℤ cross e f → pos 0 <ℤ cross f g → pos 0 <ℤ cross e g
cross-trans-half true e f g a b c h k =
    cross-trans (record { precedes-true = a }) (record { precedes-true = b }) (record { precedes-true = c }) h k
cross-trans-half false e f g a b c h k =
    let turned : pos 0 <ℤ cross (opposite e) (opposite g) = cross-trans
    (down-up e (cross-nonzero h).0 a)
    (down-up f (cross-nonzero k).0 b)
    (down-up g (cross-nonzero k).1 c)
    (rw (cross-opposite e f) h)
    (rw (cross-opposite f g) k) in
    rw (cross-opposite e g) at turned
