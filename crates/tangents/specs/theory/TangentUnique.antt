-- A settled pair touches, is nearer than any other on its line, and so is the only tangent of its kind: the only pair that meets the rule.
--     settled-first, settled-second   all of the first list is on its side or on the line; likewise the second
--     settled-nearest                 of the corners on the line no two are nearer
--     touching-on-line                all pairs that touch are on the line
--     settled-tangent                 a settled pair is a tangent; `tangent-settled`: of shapes, any tangent is the settled pair
--     settled-rule                    a settled pair meets the rule; `rule-settled`: of shapes, any pair that meets it is the settled pair
--     settled-from, settled-to        it is what the definition finds
--     settled_back                    the line turned round is settled, of the kind with both sides exchanged
--     tangent-is-settled              so of shapes that are apart the tangent is settled; `tangent-back`: exchanging them turns it round
use Rattle.std.specs.Prelude.{◌≡◌, Bool, ◌&&◌, List, [], ◌∷◌, ℕ, ◌<◌, pos, ◌*ℤ◌, length, ◌≤ℤ◌}
use Rattle.std.proofs.Math.Path.{refl, ap}
use Rattle.std.proofs.Common.{sym, ◌∙◌, ap₂, subst, arith}
use Rattle.std.proofs.Math.Bool.{true, false, not, and-eq-true_iff, not-not}
use Rattle.std.proofs.lemmas.Bool.{not-true}
use Rattle.std.specs.Int.Signed.{lt_z}
use Rattle.integer.specs.Linear.{linear, lia, ◌&◌}
use Rattle.integer.specs.Order.{weaken, lt-lt_z, le-lt_z, contra≤}
use Rattle.plane.specs.Point.{Point, opposite, corner}
use Rattle.plane.specs.Turn.{turn, turn-swap}
use Rattle.plane.specs.Search.{some, first}
use Rattle.plane.specs.Shape.{IsShape}
use Rattle.plane.specs.Direction.{value}
use Rattle.plane.specs.Measure.{squared}
use Rattle.plane.specs.Tangent.{sign_of, touches, nearer, tangent, tangent_from, tangent_to}
use Rattle.plane.proofs.theory.lists.Sought.{true-not-false, some-here, some-none, none-some, first-unique}
use Rattle.plane.proofs.theory.forms.Vector.{turned-back}
use Rattle.plane.proofs.theory.sum.Positions.{corner-injective}
use Rattle.plane.specs.Separation.{apart}
use Rattle.separation.specs.theory.Apart.{Separated, apart→direction, apart-sym}
use Rattle.tangents.specs.Rule.{MeetsRule}
use Rattle.tangents.specs.Draws.{Rests}
use Rattle.tangents.specs.theory.Sides.{side-back}
use Rattle.tangents.specs.theory.DrawsTest.{Rises, rise-back, Stays, draws→stays}
use Rattle.tangents.specs.theory.NearestOnLine.{nearest-same}
use Rattle.tangents.specs.theory.SettledExists.{Settled, rises, settled-exists}
use Rattle.tangents.specs.theory.Touching.{touches-all, touching-one-line}

-- ---- a settled pair

module _ {s t : Bool} {A B : List Point} (sep : Separated A B) {i j : ℕ} (w : Settled s t A B i j) where
  abbrev d : Point
  d = sep.direction

  abbrev p : Point
  p = corner A i

  abbrev q : Point
  q = corner B j

  rise : Rises d p q
  rise = rises sep i j w.from.within w.to.within

  stays-from : (k : ℕ) → k < length A → Stays s d p q (corner A k)
  stays-from k h = draws→stays s _ rise (w.from.undrawn k h)

  stays-to : (k : ℕ) → k < length B → Stays (not t) (opposite d) q p (corner B k)
  stays-to k h = draws→stays (not t) _ (rise-back rise) (w.to.undrawn k h)

  pub settled-first : (k : ℕ) → k < length A → pos 0 ≤ℤ (sign_of s *ℤ turn p q (corner A k))
  settled-first k h = (stays-from k h).side

  pub settled-second : (k : ℕ) → k < length B → pos 0 ≤ℤ (sign_of t *ℤ turn p q (corner B k))
  settled-second k h = side-back t p q (corner B k) (stays-to k h).side

  settled-touches : touches s t A B i j ≡ true
  settled-touches = touches-all s t A B i j settled-first settled-second

  module _ (k l : ℕ) (h : k < length A) (m : l < length B) where
    -- on the line, corners k and l are as near only if they are i and j
    as-near : turn p q (corner A k) ≡ pos 0 → turn p q (corner B l) ≡ pos 0
        → squared (corner A k) (corner B l) ≤ℤ squared p q → (corner A k ≡ p) × (corner B l ≡ q)
    as-near e f = nearest-same rise (rises sep k l h m) e f ((stays-from k h).near e) end
      where
        end : value d q ≤ℤ value d (corner B l)
        end =
            let back : turn q p (corner B l) ≡ pos 0 = lia (turn p q (corner B l) ∷ turn q p (corner B l) ∷ [])
            (turn-swap p q (corner B l) & f) (search linear depth 40) (omega arith) in
            turned-back d q (corner B l) ((stays-to l m).near back)

    pub settled-nearest : turn p q (corner A k) ≡ pos 0 → turn p q (corner B l) ≡ pos 0 → squared p q ≤ℤ squared (corner A k) (corner B l)
    settled-nearest e f = contra≤ (λ g.
        let same = as-near e f (weaken g) in
        lia (squared (corner A k) (corner B l) ∷ squared p q ∷ []) (g & ap₂ squared same.0 same.1)
        (search linear depth 40) (omega arith))

    module _ (touch : touches s t A B k l ≡ true) where
      pub touching-on-line : (turn p q (corner A k) ≡ pos 0) × (turn p q (corner B l) ≡ pos 0)
      touching-on-line = touching-one-line s t sep w.from.within w.to.within h m settled-touches touch

      on-touching-line : (turn (corner A k) (corner B l) p ≡ pos 0) × (turn (corner A k) (corner B l) q ≡ pos 0)
      on-touching-line = touching-one-line s t sep h m w.from.within w.to.within touch settled-touches

      touching-same : squared (corner A k) (corner B l) ≤ℤ squared p q → (corner A k ≡ p) × (corner B l ≡ q)
      touching-same = let line = touching-on-line in as-near line.0 line.1

      touching-not-nearer : squared p q ≤ℤ squared (corner A k) (corner B l)
      touching-not-nearer = let line = touching-on-line in settled-nearest line.0 line.1

    not-nearer : nearer s t A B i j k l ≡ false
    unfolding nearer
    not-nearer = go (touches s t A B k l) refl
      where
        go : (b : Bool) → touches s t A B k l ≡ b → (b && lt_z (squared (corner A k) (corner B l)) (squared p q)) ≡ false
        go false e = refl
        go true e = le-lt_z (touching-not-nearer e)

  pub settled-tangent : tangent s t A B i j ≡ true
  unfolding tangent
  settled-tangent = (and-eq-true_iff _ _).1
      (settled-touches, ap not (none-some _ (length A) (λ k h. none-some _ (length B) (λ l m. not-nearer k l h m))))

  pub settled-rule : MeetsRule s t A B i j
  settled-rule = record { begins = w.from.within; ends = w.to.within; touching = settled-touches; nearest = settled-nearest }

  -- ---- the only one

  tangent-touches : (k l : ℕ) → tangent s t A B k l ≡ true → touches s t A B k l ≡ true
  unfolding tangent
  tangent-touches k l e = ((and-eq-true_iff _ _).0 e).0

  -- the settled pair touches, so a tangent is no further
  tangent-nearest : (k l : ℕ) → tangent s t A B k l ≡ true → squared (corner A k) (corner B l) ≤ℤ squared p q
  unfolding tangent nearer
  tangent-nearest k l e = contra≤ (λ g. true-not-false ((and-eq-true_iff _ _).1 (settled-touches, lt-lt_z g))
      (some-none (nearer s t A B k l i) (length B) (some-none (λ n. some (nearer s t A B k l n) (length B)) (length A)
      (not-true _ ((and-eq-true_iff (touches s t A B k l) _).0 e).1) i w.from.within) j w.to.within))

  module _ (shape-A : IsShape A) (shape-B : IsShape B) where
    touching-is-settled : (k l : ℕ) → k < length A → l < length B → touches s t A B k l ≡ true
        → squared (corner A k) (corner B l) ≤ℤ squared p q → (k ≡ i) × (l ≡ j)
    touching-is-settled k l h m e near =
        let same = touching-same k l h m e near in
        (corner-injective A shape-A k i h w.from.within same.0, corner-injective B shape-B l j m w.to.within same.1)

    pub tangent-settled : (k l : ℕ) → k < length A → l < length B → tangent s t A B k l ≡ true → (k ≡ i) × (l ≡ j)
    tangent-settled k l h m e = touching-is-settled k l h m (tangent-touches k l e) (tangent-nearest k l e)

    -- the settled pair is on the line of any pair that touches, and so is compared with it by that pair's rule
    pub rule-settled : (k l : ℕ) → MeetsRule s t A B k l → (k ≡ i) × (l ≡ j)
    rule-settled k l r =
        let line = on-touching-line k l r.begins r.ends r.touching in
        touching-is-settled k l r.begins r.ends r.touching
        (r.nearest i j w.from.within w.to.within line.0 line.1)

    not-tangent : (k l : ℕ) → k < length A → l < length B → ((k ≡ i) × (l ≡ j) → ⊥) → tangent s t A B k l ≡ false
    not-tangent k l h m other = go (tangent s t A B k l) refl
      where
        go : (b : Bool) → tangent s t A B k l ≡ b → b ≡ false
        go false e = refl
        go true e = absurd (other (tangent-settled k l h m e))

    pub settled-from : tangent_from s t A B ≡ i
    unfolding tangent_from
    settled-from = first-unique _ (length A) i (omega (arith, w.from.within))
        (λ h. some-here (tangent s t A B i) (length B) j w.to.within settled-tangent)
        (λ k h. none-some _ (length B) (λ l m. not-tangent k l (omega (arith, w.from.within)) m (λ e. omega (arith, e.0))))

    pub settled-to : tangent_to s t A B ≡ j
    unfolding tangent_to
    settled-to = ap (λ k. first (tangent s t A B k) (length B)) settled-from
        ∙ first-unique (tangent s t A B i) (length B) j (omega (arith, w.to.within)) (λ h. settled-tangent)
        (λ l m. not-tangent i l w.from.within (omega (arith, w.to.within)) (λ e. omega (arith, e.1)))

-- ---- the line turned round

pub settled_back : {s t : Bool} {A B : List Point} {i j : ℕ} → Settled s t A B i j → Settled (not t) (not s) B A j i
settled_back {s} {t} {A} {B} {i} {j} w =
    record { from = w.to; to = subst (λ u. Rests u A i (corner B j)) (sym (not-not s)) w.from }

-- ---- of shapes that are apart

module _ (s t : Bool) (A B : List Point) (shape-A : IsShape A) (shape-B : IsShape B) (h : apart A B ≡ true) where
  pub tangent-is-settled : Settled s t A B (tangent_from s t A B) (tangent_to s t A B)
  tangent-is-settled =
      let sep = apart→direction A B shape-A.some shape-B.some h in
      let (i, j, w) = settled-exists sep s t shape-A.some shape-B.some in
      rw (settled-from sep w shape-A shape-B, settled-to sep w shape-A shape-B) w

  pub tangent-back : (tangent_from (not t) (not s) B A ≡ tangent_to s t A B) × (tangent_to (not t) (not s) B A ≡ tangent_from s t A B)
  tangent-back =
      let sep = apart→direction B A shape-B.some shape-A.some (apart-sym B A shape-B.some shape-A.some ∙ h) in
      let w = settled_back tangent-is-settled in
      (settled-from sep w shape-B shape-A, settled-to sep w shape-B shape-A)
