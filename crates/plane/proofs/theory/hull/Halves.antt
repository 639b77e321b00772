-- Steps up and steps down. A chain of points runs up (`true`, the right-hand one) or down (`false`, the left-hand one): what both need
-- is said once, for the half as a Bool.
--     Onward half a b                   the step from a to b runs up, or down; Sideways half d: the direction d looks right, or left
--     onward-trans, onward-irrefl, onward-back, onward-precedes, onward-up, onward-nonzero      what a step says
--     onward-before, onward-around      two steps that turn left are in order; so are one up and then one down
--     value-between                     where a chain does not turn left, the middle point is no further than one of its neighbours
use Rattle.std.specs.Prelude.{◌≡◌, Bool, true, false, List, [], ◌∷◌, ℤ, pos, ◌≤ℤ◌, ◌<ℤ◌}
use Rattle.std.proofs.Common.{sym, ◌∙◌, subst, arith}
use Rattle.integer.specs.Linear.{linear, lia, ◌&◌}
use Rattle.integer.specs.Order.{◌<×<◌, ◌≤×<◌, ◌≤×≤◌, ◌≡×◌, weaken, le_of_eq, contra≤}
use Rattle.plane.specs.Point.{Point, origin, ◌⊖◌, opposite}
use Rattle.plane.specs.Turn.{cross, turn, Left}
use Rattle.plane.specs.Direction.{value}
use Rattle.plane.specs.Forms.{Precedes, up, Before, NonZero}
use Rattle.plane.proofs.theory.forms.Precedes.{Lower, lower, level, precedes-lower, precedes-trans, precedes-irrefl}
use Rattle.plane.proofs.theory.forms.Vector.{⊖-zero, turn-edges}
use Rattle.plane.proofs.theory.forms.HalfPlane.{Up, precedes→up, precedes→down}
use Rattle.plane.proofs.theory.forms.Angle.{apart, alike, earlier→before}

-- ---- the two halves

-- the step from a to b runs up, or it runs down
pub data Onward : Bool → Point → Point → Type 0 where
  upward : {a b : Point} → Precedes a b → Onward true a b
  downward : {a b : Point} → Precedes b a → Onward false a b

pub onward-precedes : {a b : Point} → Onward true a b → Precedes a b
onward-precedes (upward p) = p

-- the direction d looks right, or left; (0, v) both
abbrev pub Sideways : Bool → Point → Type 0
Sideways true d = pos 0 ≤ℤ d.x
Sideways false d = d.x ≤ℤ pos 0

pub onward-trans : {half : Bool} {a b c : Point} → Onward half a b → Onward half b c → Onward half a c
onward-trans (upward p) (upward q) = upward (precedes-trans p q)
onward-trans (downward p) (downward q) = downward (precedes-trans q p)

-- a step of one half read backwards is a step of the other
pub onward-back : {a b : Point} → Onward true a b → Onward false b a
onward-back (upward p) = downward p

pub onward-irrefl : {half : Bool} {a : Point} → Onward half a a → ⊥
onward-irrefl (upward p) = precedes-irrefl p
onward-irrefl (downward p) = precedes-irrefl p

pub onward-up : {half : Bool} {a b : Point} → Onward half a b → up (b ⊖ a) ≡ half
onward-up (upward p) = (precedes→up p).precedes-true
onward-up (downward p) = precedes→down p

pub onward-nonzero : {half : Bool} {a b : Point} → Onward half a b → NonZero (b ⊖ a)
onward-nonzero {half} {a} {b} p = record { non_zero = λ e. onward-irrefl (subst (λ c. Onward half a c) (sym (⊖-zero a b e)) p) }

pub onward-before : {half : Bool} {a b c : Point} → Onward half a b → Onward half b c → Left a b c → Before (b ⊖ a) (c ⊖ b)
onward-before {half} {a} {b} {c} p q left =
    earlier→before (alike (onward-up p ∙ sym (onward-up q)) (subst (λ z. pos 0 <ℤ z) (turn-edges a b c) left))

pub onward-around : {a b c : Point} → Onward true a b → Onward false b c → Before (b ⊖ a) (c ⊖ b)
onward-around p q = earlier→before (apart (onward-up p) (onward-up q))

-- ---- a point that is not turned left at is no further than its neighbours

-- two up vectors that do not turn left do not first rise and then fall in a direction that looks right:
-- f.y (d·e) - e.y (d·f) = d.x cross e f, and the left side would be above 0
no-bump : (e f d : Point) → Up e → Up f → cross e f ≤ℤ pos 0 → pos 0 ≤ℤ d.x → pos 0 <ℤ value d e → value d f <ℤ pos 0 → ⊥
unfolding cross value
no-bump e f d e_up f-up turns right rises falls = go (precedes-lower f-up)
  where
    climbs : Lower origin e → pos 0 ≤ℤ e.y
    climbs (lower h) = weaken h
    climbs (level h k) = le_of_eq h

    go : Lower origin f → ⊥
    go (lower h) =
        let products = h <×< rises & climbs (precedes-lower e_up) ≤×< falls & right ≤×≤ turns in
        lia (e.x ∷ e.y ∷ f.x ∷ f.y ∷ d.x ∷ d.y ∷ []) products (search linear depth 40) (omega arith)
    go (level h k) = lia (f.x ∷ f.y ∷ d.x ∷ d.y ∷ []) (h ≡× d.y & right ≤×< k & falls) (search linear depth 40) (omega arith)

-- the steps down are steps up read backwards, seen from the opposite direction
pub value-between : {half : Bool} {a b c : Point} {N : ℤ} (d : Point) → Onward half a b → Onward half b c → turn a b c ≤ℤ pos 0
    → Sideways half d → value d a ≤ℤ N → value d c ≤ℤ N → value d b ≤ℤ N
unfolding value turn cross
value-between {a = a} {b = b} {c = c} {N = N} d (upward p) (upward q) t f h k = contra≤ (λ g.
    let ρ : List ℤ = a.x ∷ a.y ∷ b.x ∷ b.y ∷ c.x ∷ c.y ∷ d.x ∷ d.y ∷ N ∷ [] in
    no-bump (b ⊖ a) (c ⊖ b) d (precedes→up p) (precedes→up q)
    (lia ρ t (search linear depth 40) (omega arith)) f
    (lia ρ (h & g) (search linear depth 40) (omega arith)) (lia ρ (k & g) (search linear depth 40) (omega arith)))
value-between {a = a} {b = b} {c = c} {N = N} d (downward p) (downward q) t f h k = contra≤ (λ g.
    let ρ : List ℤ = a.x ∷ a.y ∷ b.x ∷ b.y ∷ c.x ∷ c.y ∷ d.x ∷ d.y ∷ N ∷ [] in
    no-bump (a ⊖ b) (b ⊖ c) (opposite d) (precedes→up p) (precedes→up q)
    (lia ρ t (search linear depth 40) (omega arith)) (lia ρ f (search linear depth 40) (omega arith))
    (lia ρ (h & g) (search linear depth 40) (omega arith)) (lia ρ (k & g) (search linear depth 40) (omega arith)))
