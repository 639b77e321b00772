-- The order of vectors by angle, from level to the right all the way round. No fact here asks that a vector is not zero.
--     Earlier, Later        what it says that e is before f, and that it is not: by halves, and by the turn in one half
--     before→earlier, earlier→before, not-before→later, later→not-before     from the test to these ways and back
--     before-alike          in one half the turn decides
--     before-cross          a left turn is a step in the order, unless it goes from the lower half to the upper
--     before-trans, before-irrefl, before-asym, before-reversed     a strict order
--     cross-rises           while `before _ t` stays the same along the order, once the product with t is above 0 it stays so
-- Turns within one half are in `HalfPlane.antt`, vectors that point the same way in `SameWay.antt`.
use Rattle.std.specs.Prelude.{◌≡◌, refl, Bool, true, false, not, ◌&&◌, ◌||◌, [], ◌∷◌, ◌⊎◌, pos, ◌≤ℤ◌, ◌<ℤ◌}
use Rattle.std.proofs.Common.{sym, ◌∙◌, true≢false, inl, inr, arith}
use Rattle.std.proofs.lemmas.Bool.{false≢true, not-false}
use Rattle.std.specs.Int.Signed.{lt_z}
use Rattle.integer.specs.Linear.{linear, lia, ◌&◌}
use Rattle.integer.specs.Order.{lt_z-true, lt_z-false, lt-lt_z, le-lt_z}
use Rattle.plane.specs.Point.{Point, opposite}
use Rattle.plane.specs.Turn.{cross}
use Rattle.plane.specs.Forms.{up, before, Before}
use Rattle.plane.proofs.theory.forms.Vector.{cross-self, cross-turned, cross-nonzero}
use Rattle.plane.proofs.theory.forms.HalfPlane.{Up, up-opposite, cross-trans-half}

-- ---- what the test says

-- from the upper half to the lower; or in one half, and to the left
pub data Earlier (e f : Point) : Type 0 where
  apart : up e ≡ true → up f ≡ false → Earlier e f
  alike : up e ≡ up f → pos 0 <ℤ cross e f → Earlier e f

-- from the lower half to the upper; or in one half, and not to the left
pub data Later (e f : Point) : Type 0 where
  apart : up e ≡ false → up f ≡ true → Later e f
  alike : up e ≡ up f → cross e f ≤ℤ pos 0 → Later e f

pub before→earlier : {e f : Point} → Before e f → Earlier e f
unfolding before
before→earlier {e} {f} b = go (up e) (up f) (lt_z (pos 0) (cross e f)) refl refl refl b.before-true
  where
    go : (s t u : Bool) → up e ≡ s → up f ≡ t → lt_z (pos 0) (cross e f) ≡ u → ((s && not t) || ((s || not t) && u)) ≡ true → Earlier e f
    go true false u p q r h = apart p q
    go true true true p q r h = alike (p ∙ sym q) (lt_z-true r)
    go true true false p q r h = absurd (false≢true h)
    go false true u p q r h = absurd (false≢true h)
    go false false true p q r h = alike (p ∙ sym q) (lt_z-true r)
    go false false false p q r h = absurd (false≢true h)

pub not-before→later : (e f : Point) → before e f ≡ false → Later e f
unfolding before
not-before→later e f = go (up e) (up f) (lt_z (pos 0) (cross e f)) refl refl refl
  where
    go : (s t u : Bool) → up e ≡ s → up f ≡ t → lt_z (pos 0) (cross e f) ≡ u → ((s && not t) || ((s || not t) && u)) ≡ false → Later e f
    go true false u p q r h = absurd (true≢false h)
    go true true true p q r h = absurd (true≢false h)
    go true true false p q r h = alike (p ∙ sym q) (lt_z-false r)
    go false true u p q r h = apart p q
    go false false true p q r h = absurd (true≢false h)
    go false false false p q r h = alike (p ∙ sym q) (lt_z-false r)

half-test : (s u : Bool) → ((s && not s) || ((s || not s) && u)) ≡ u
half-test true u = refl
half-test false u = refl

pub before-alike : (e f : Point) → up e ≡ up f → before e f ≡ lt_z (pos 0) (cross e f)
unfolding before
before-alike e f h = rw h (half-test (up f) (lt_z (pos 0) (cross e f)))

pub earlier→before : {e f : Point} → Earlier e f → Before e f
unfolding before
earlier→before (apart h k) = record { before-true = rw (h, k) }
earlier→before {e} {f} (alike h k) = record { before-true = before-alike e f h ∙ lt-lt_z k }

pub later→not-before : {e f : Point} → Later e f → before e f ≡ false
unfolding before
later→not-before (apart h k) = rw (h, k)
later→not-before {e} {f} (alike h k) = before-alike e f h ∙ le-lt_z k

pub before-cross : (e f : Point) → pos 0 <ℤ cross e f → (up e ≡ false → Up f → ⊥) → Before e f
before-cross e f h no_return = go _ refl _ refl
  where
    go : (s : Bool) → up e ≡ s → (t : Bool) → up f ≡ t → Before e f
    go true p true q = earlier→before (alike (p ∙ sym q) h)
    go true p false q = earlier→before (apart p q)
    go false p true q = absurd (no_return p (record { precedes-true = q }))
    go false p false q = earlier→before (alike (p ∙ sym q) h)

-- ---- a strict order

pub before-trans : {e f g : Point} → Before e f → Before f g → Before e g
before-trans {e} {f} {g} x y = earlier→before (go (before→earlier x) (before→earlier y))
  where
    go : Earlier e f → Earlier f g → Earlier e g
    go (apart a b) (apart c d) = absurd (true≢false (sym c ∙ b))
    go (apart a b) (alike c d) = apart a (sym c ∙ b)
    go (alike a b) (apart c d) = apart (a ∙ c) d
    go (alike a b) (alike c d) = alike (a ∙ c) (cross-trans-half (up f) e f g a refl (sym c) b d)

pub before-irrefl : {e : Point} → Before e e → ⊥
before-irrefl {e} x = go (before→earlier x)
  where
    go : Earlier e e → ⊥
    go (apart a b) = true≢false (sym a ∙ b)
    go (alike a h) = lia (cross e e ∷ []) (h & cross-self e) (search linear depth 40) (omega arith)

pub before-asym : {e f : Point} → Before e f → Before f e → ⊥
before-asym x y = before-irrefl (before-trans x y)

pub before-reversed : {e f : Point} → Before e f → before f e ≡ false
before-reversed {e} {f} x = go (before f e) refl
  where
    go : (s : Bool) → before f e ≡ s → s ≡ false
    go true h = absurd (before-asym x (record { before-true = h }))
    go false h = refl

-- ---- the product with a fixed vector t, along the order

same_or_not : (s t : Bool) → (s ≡ t) ⊎ (not s ≡ t)
same_or_not true true = inl refl
same_or_not true false = inr refl
same_or_not false true = inr refl
same_or_not false false = inl refl

-- only in the half opposite to t is there something to show: there -t comes before e, and e before f
pub cross-rises : (e f t : Point) → Before e f → before e t ≡ before f t → pos 0 <ℤ cross e t → pos 0 <ℤ cross f t
cross-rises e f t x same k = go (same_or_not (up t) (up f)) (before→earlier x)
  where
    -- in the half of t the test is the product
    own : up t ≡ up f → Earlier e t → pos 0 <ℤ cross f t
    own i s = lt_z-true (sym (before-alike f t (sym i)) ∙ sym same ∙ (earlier→before s).before-true)

    go : (up t ≡ up f) ⊎ (not (up t) ≡ up f) → Earlier e f → pos 0 <ℤ cross f t
    go (inl i) (apart a b) = own i (apart a (i ∙ b))
    go (inl i) (alike a b) = own i (alike (a ∙ sym i) k)
    go (inr i) (apart a b) =
        let u : up t ≡ true = not-false (up t) (i ∙ b) in
        absurd (true≢false (sym (earlier→before (alike (a ∙ sym u) k)).before-true ∙ same ∙ later→not-before (apart b u)))
    go (inr i) (alike a b) = rw cross-turned at (cross-trans-half (up f) (opposite t) e f
        (up-opposite t (cross-nonzero k).1 ∙ i) a refl (rw cross-turned k) b)
