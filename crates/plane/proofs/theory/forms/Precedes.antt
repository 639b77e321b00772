-- The order of points by y, then by x.
--     Lower p q        what `Precedes p q` says, by cases; `precedes-lower` reads it, `lower-precedes` makes it
--     precedes-trans, precedes-irrefl, precedes-asym, precedes-different
--     not-precedes     the test is false where the order is absurd; `precedes-reversed`: where the other way round holds
--     Placed p q       p comes before q, is the same, or comes after it; `placed` decides
--     precedes-total   where neither precedes the other they are equal; `same_point-neither`: and so says the test
--     precedes-below, precedes-above, precedes-level      by tests of the coordinates
--     precedes-opposite  the order of the opposite points is the other way round
use Rattle.std.specs.Prelude.{◌≡◌, refl, Bool, true, false, not, ◌&&◌, ◌||◌, [], ◌∷◌, ◌≤ℤ◌, ◌<ℤ◌}
use Rattle.std.proofs.Common.{sym, ◌∙◌, ap₂, subst, true≢false, arith}
use Rattle.std.proofs.lemmas.Bool.{false≢true}
use Rattle.std.specs.Int.Signed.{le_z, lt_z}
use Rattle.integer.specs.Linear.{linear, lia, ◌&◌}
use Rattle.integer.specs.Order.{Compared, is_below, is-equal, is-above, compared, le_of_eq, le_antisym, lt_z-true, lt_z-false, le_z-true}
use Rattle.integer.specs.Order.{lt-lt_z, le-lt_z, le-le_z}
use Rattle.plane.specs.Point.{Point, point, opposite, same_point}
use Rattle.plane.specs.Shape.{precedes}
use Rattle.plane.specs.Forms.{Precedes}
use Rattle.plane.proofs.theory.lists.Members.{same_point-self, same_point-other}

-- ---- what it says

-- q is higher, or level with p and further to the right
pub data Lower (p q : Point) : Type 0 where
  lower : p.y <ℤ q.y → Lower p q
  level : p.y ≡ q.y → p.x <ℤ q.x → Lower p q

pub precedes-lower : {p q : Point} → Precedes p q → Lower p q
unfolding precedes
precedes-lower {p} {q} r = go _ refl _ refl _ refl r.precedes-true
  where
    go : (s : Bool) → lt_z p.y q.y ≡ s → (t : Bool) → le_z p.y q.y ≡ t → (u : Bool) → lt_z p.x q.x ≡ u
        → (s || (t && u)) ≡ true → Lower p q
    go true a t b u c h = lower (lt_z-true a)
    go false a false b u c h = absurd (false≢true h)
    go false a true b false c h = absurd (false≢true h)
    go false a true b true c h = level (le_antisym (le_z-true b) (lt_z-false a)) (lt_z-true c)

pub lower-precedes : {p q : Point} → Lower p q → Precedes p q
unfolding precedes
lower-precedes {p} {q} (lower h) = record { precedes-true = rw (lt-lt_z h) }
lower-precedes {p} {q} (level e h) =
    record { precedes-true = rw (le-lt_z (le_of_eq (sym e)), le-le_z (le_of_eq e), lt-lt_z h) }

-- ---- a strict order

pub precedes-trans : {p q r : Point} → Precedes p q → Precedes q r → Precedes p r
precedes-trans {p} {q} {r} a b = lower-precedes (go (precedes-lower a) (precedes-lower b))
  where
    go : Lower p q → Lower q r → Lower p r
    go (lower h) (lower k) = lower (lia (p.y ∷ q.y ∷ r.y ∷ []) (h & k) (search linear depth 40) (omega arith))
    go (lower h) (level e k) = lower (lia (p.y ∷ q.y ∷ r.y ∷ []) (h & e) (search linear depth 40) (omega arith))
    go (level e h) (lower k) = lower (lia (p.y ∷ q.y ∷ r.y ∷ []) (e & k) (search linear depth 40) (omega arith))
    go (level e h) (level f k) = level (e ∙ f) (lia (p.x ∷ q.x ∷ r.x ∷ []) (h & k) (search linear depth 40) (omega arith))

pub precedes-irrefl : {p : Point} → Precedes p p → ⊥
precedes-irrefl {p} a = go (precedes-lower a)
  where
    go : Lower p p → ⊥
    go (lower h) = lia (p.y ∷ []) h (search linear depth 40) (omega arith)
    go (level e h) = lia (p.x ∷ []) h (search linear depth 40) (omega arith)

pub precedes-asym : {p q : Point} → Precedes p q → Precedes q p → ⊥
precedes-asym a b = precedes-irrefl (precedes-trans a b)

pub precedes-different : {p q : Point} → Precedes p q → p ≡ q → ⊥
precedes-different u e = precedes-irrefl (rw e at u)

pub not-precedes : (p q : Point) → (Precedes p q → ⊥) → precedes p q ≡ false
not-precedes p q f = go (precedes p q) refl
  where
    go : (t : Bool) → precedes p q ≡ t → t ≡ false
    go true e = absurd (f (record { precedes-true = e }))
    go false e = refl

pub precedes-reversed : {p q : Point} → Precedes p q → precedes q p ≡ false
precedes-reversed {p} {q} a = not-precedes q p (precedes-asym a)

-- ---- a total one

-- p comes before q, is q, or comes after it
pub data Placed (p q : Point) : Type 0 where
  ahead : Precedes p q → Placed p q
  same : p ≡ q → Placed p q
  behind : Precedes q p → Placed p q

pub placed : (p q : Point) → Placed p q
placed p q = go (compared p.y q.y) (compared p.x q.x)
  where
    go : Compared p.y q.y → Compared p.x q.x → Placed p q
    go (is_below h) k = ahead (lower-precedes (lower h))
    go (is-above h) k = behind (lower-precedes (lower h))
    go (is-equal e) (is_below k) = ahead (lower-precedes (level e k))
    go (is-equal e) (is-equal f) = same (ap₂ point f e)
    go (is-equal e) (is-above k) = behind (lower-precedes (level (sym e) k))

pub precedes-total : (p q : Point) → precedes p q ≡ false → precedes q p ≡ false → p ≡ q
precedes-total p q a b = go (placed p q)
  where
    go : Placed p q → p ≡ q
    go (ahead h) = absurd (true≢false (sym h.precedes-true ∙ a))
    go (same e) = e
    go (behind h) = absurd (true≢false (sym h.precedes-true ∙ b))

pub same_point-neither : (p q : Point) → same_point p q ≡ (not (precedes p q) && not (precedes q p))
same_point-neither p q = go (placed p q)
  where
    self : precedes p p ≡ false
    self = not-precedes p p precedes-irrefl

    go : Placed p q → same_point p q ≡ (not (precedes p q) && not (precedes q p))
    go (ahead h) = rw h.precedes-true (same_point-other p q (precedes-different h))
    go (same e) = subst (λ z. same_point p z ≡ (not (precedes p z) && not (precedes z p))) e (rw (same_point-self p, self))
    go (behind h) = rw (h.precedes-true, precedes-reversed h) (same_point-other p q (λ e. precedes-different h (sym e)))

pub precedes-opposite : {p q : Point} → Precedes p q → Precedes (opposite q) (opposite p)
precedes-opposite {p} {q} a = lower-precedes (go (precedes-lower a))
  where
    go : Lower p q → Lower (opposite q) (opposite p)
    go (lower h) = lower (lia (p.y ∷ q.y ∷ []) h (search linear depth 40) (omega arith))
    go (level e h) = level (lia (p.y ∷ q.y ∷ []) e (search linear depth 40) (omega arith))
        (lia (p.x ∷ q.x ∷ []) h (search linear depth 40) (omega arith))

-- ---- by tests of the coordinates, as code makes them

pub precedes-below : (a b : Point) → a.y <ℤ b.y → precedes a b ≡ true
precedes-below a b h = (lower-precedes (lower h)).precedes-true

pub precedes-above : (a b : Point) → b.y <ℤ a.y → precedes a b ≡ false
precedes-above a b h = precedes-reversed (lower-precedes (lower h))

pub precedes-level : (a b : Point) → a.y ≤ℤ b.y → b.y ≤ℤ a.y → precedes a b ≡ lt_z a.x b.x
unfolding precedes
precedes-level a b h k = ap₂ (λ s t. s || (t && lt_z a.x b.x)) (le-lt_z k) (le-le_z h)
