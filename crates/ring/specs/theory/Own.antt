-- A shape's own list as a ring.
--     edges-apart          its neighbours differ
--     first-left           of three or more corners, the first turns left
--     shape-is-own-ring    it has these corners
use Rattle.std.specs.Prelude.{◌≡◌, refl, Bool, true, false, not, List, [], ◌∷◌, ◌++◌, ℕ, suc, ℤ, pos, neg_ℤ, length}
use Rattle.std.specs.Prelude.{◌<ℤ◌, ◌≤ℤ◌}
use Rattle.std.proofs.Common.{sym, ◌∙◌, ap, ap₂, subst, arith}
use Rattle.integer.specs.Ring.{ring, reify}
use Rattle.integer.specs.Linear.{linear, lia, ◌&◌}
use Rattle.integer.specs.Order.{lt-lt_z, le-lt_z}
use Rattle.plane.specs.Point.{Point, corner, origin, ◌⊖◌, same_point}
use Rattle.plane.specs.Turn.{turn, Left, turn-cycle}
use Rattle.plane.specs.Shape.{next, IsShape}
use Rattle.plane.specs.Forms.{NonZero, From, InOrder, edges_to}
use Rattle.plane.specs.Direction.{value}
use Rattle.plane.proofs.theory.lists.Next.{Following, onward, closing, following}
use Rattle.plane.proofs.theory.lists.Members.{same_point-other}
use Rattle.plane.proofs.theory.forms.Standard.{shape→ordered, shape→sorted}
use Rattle.plane.proofs.theory.forms.Round.{sorted→local}
use Rattle.plane.proofs.theory.forms.Fan.{Fan, Bends}
use Rattle.plane.proofs.theory.forms.Vector.{⊖-self, value-nonneg}
use Rattle.plane.proofs.theory.sum.Positions.{edge-turn}
use Rattle.ring.specs.Round.{last_of, optional, clockwise, in_sense, sensed, straight}
use Rattle.ring.specs.Round.{Apart, bending, bends}
use Rattle.ring.specs.Ring.{ring_shape}
use Rattle.ring.specs.theory.Steps.{last-at, straight-left}
use Rattle.ring.specs.theory.Furthest.{straight→level, point-not-straight}
use Rattle.ring.specs.theory.Natural.{self, ring-core}
use Rattle.ring.specs.theory.Begun.{last-all, own-least, made}
use Rattle.ring.specs.theory.Backwards.{distinct-same}

-- ---- a shape's own list

left-bends : (a b c : Point) → Left a b c → straight a b c ≡ false
left-bends a b c h = straight-left a b c (lt-lt_z h)

-- a way there and back is not straight
back_step : (a b : Point) → value (b ⊖ a) (a ⊖ b) ≡ neg_ℤ (value (b ⊖ a) (b ⊖ a))
unfolding value
back_step a b = ring (a.x ∷ a.y ∷ b.x ∷ b.y ∷ []) (search reify depth 40) tt

back-bends : (a b : Point) → straight a b a ≡ false
back-bends a b = go (straight a b a) refl
  where
    go : (t : Bool) → straight a b a ≡ t → t ≡ false
    go false e = refl
    go true e = absurd (lia (value (b ⊖ a) (a ⊖ b) ∷ value (b ⊖ a) (b ⊖ a) ∷ [])
        ((straight→level a b a e).onward & back_step a b & value-nonneg (b ⊖ a)) (search linear depth 40) (omega arith))

later-order : (e : Point) (E : List Point) → From e E → InOrder E
later-order e [] h = tt
later-order e (f ∷ E) h = (h.1, h.2)

step-apart : (p q : Point) → NonZero (q ⊖ p) → same_point p q ≡ false
step-apart p q h = same_point-other p q (λ e. h.non_zero (ap (λ (z : Point). q ⊖ z) e ∙ ⊖-self q))

pub edges-apart : (s p : Point) (ps : List Point) → InOrder (edges_to s p ps) → Apart self p ps s
edges-apart s p [] h = step-apart p s h.0
edges-apart s p (q ∷ ps) h = (step-apart p q h.0, edges-apart s q ps (later-order (q ⊖ p) (edges_to s q ps) h.1))

-- from the second corner on, back to p
rest-bends : (p a b : Point) (ps : List Point) → Left p a b → Fan p b ps → Bends a b ps → bending self a (b ∷ ps) p ≡ b ∷ ps
rest-bends p a b [] l f h =
    ap (λ (t : Bool). optional (not t) b ++ []) (left-bends a b p (subst (λ (z : ℤ). pos 0 <ℤ z) (turn-cycle p a b) l))
rest-bends p a b (c ∷ ps) l f h =
    ap₂ (λ (t : Bool) (m : List Point). optional (not t) b ++ m) (left-bends a b c h.0) (rest-bends p b c ps f.0 f.1 h.1)

-- the last corner, the first and the second
pub first-left : (p q r : Point) (rs : List Point) → IsShape (p ∷ q ∷ r ∷ rs) → Left (last_of r rs) p q
first-left p q r rs s =
    subst (λ (z : ℤ). pos 0 <ℤ z) (sym (turn-cycle (last_of r rs) p q))
    (last-all (λ (z : Point). Left p q z) r rs (shape→ordered (p ∷ q ∷ r ∷ rs) s).1.0.0)

round-bends : (p q : Point) (ps : List Point) → IsShape (p ∷ q ∷ ps) → bends self (p ∷ q ∷ ps) ≡ p ∷ q ∷ ps
round-bends p q [] s =
    ap₂ (λ (t u : Bool). optional (not t) p ++ (optional (not u) q ++ [])) (back-bends q p) (back-bends p q)
round-bends p q (r ∷ rs) s =
    let near = sorted→local p q (r ∷ rs) (shape→sorted (p ∷ q ∷ r ∷ rs) s) in
    ap₂ (λ (t : Bool) (m : List Point). optional (not t) p ++ m) (left-bends (last_of r rs) p q (first-left p q r rs s))
    (ap₂ (λ (t : Bool) (m : List Point). optional (not t) q ++ m) (left-bends p q r near.bends.0)
    (rest-bends p q r rs near.fan.0 near.fan.1 near.bends.1))

not-clockwise : (p q : Point) (ps : List Point) → IsShape (p ∷ q ∷ ps) → clockwise self (p ∷ q ∷ ps) ≡ false
not-clockwise p q ps s =
    let S = p ∷ q ∷ ps in
    let last = last_of q ps in
    let side = edge-turn S s 0 (suc (length ps)) (omega arith) (omega arith) in
    le-lt_z {x = turn last p q} {y = pos 0} (subst (λ (z : ℤ). pos 0 ≤ℤ z)
    (ap₂ (λ (i : ℕ) (c : Point). turn p (corner S i) c) (second (following (length S) 0 (omega arith)))
    (last-at origin p (q ∷ ps) (suc (length ps)) refl)
    ∙ sym (turn-cycle last p q)) side)
  where
    second : Following (length (p ∷ q ∷ ps)) 0 → next (length (p ∷ q ∷ ps)) 0 ≡ 1
    second (onward l e) = e
    second (closing l e) = absurd (omega arith)

one-sense : (b : Bool) (p : Point) → in_sense b (p ∷ []) ≡ p ∷ []
one-sense true p = refl
one-sense false p = refl

pub shape-is-own-ring : (ps : List Point) → IsShape ps → ring_shape ps ≡ ps
shape-is-own-ring [] s = absurd (omega (arith, s.some))
shape-is-own-ring (p ∷ []) s =
    ring-core (p ∷ []) ∙ ap made (own-least p [] tt) ∙ ap (bends self) (one-sense (clockwise self (p ∷ [])) p)
    ∙ ap (λ (t : Bool). optional (not t) p ++ []) (point-not-straight p)
shape-is-own-ring (p ∷ (q ∷ ps)) s =
    ring-core (p ∷ q ∷ ps) ∙ ap made (own-least p (q ∷ ps) (shape→ordered (p ∷ q ∷ ps) s).0)
    ∙ ap (λ (l : List Point). bends self (sensed self l))
    (distinct-same p (q ∷ ps) (edges-apart p p (q ∷ ps) (shape→sorted (p ∷ q ∷ ps) s)))
    ∙ ap (λ (b : Bool). bends self (in_sense b (p ∷ q ∷ ps))) (not-clockwise p q ps s) ∙ round-bends p q ps s
