-- The test `draws` as facts about turns and the value in a direction d, in which the line rises from p to q.
--     draws-right, -left, -along    the test by the sign of the turn
--     Rises d p q                   the line rises; `rise-gap`, `rise-positive`: by how much, and that it has a length
--     rise-back, value-back         the line turned round rises in the opposite direction
--     Stays s d p q x               p stays the start of the line to q: x is on side s, and not ahead of p on the line
--     Drawn s d p q x               x draws it away
--     draws→stays, draws→drawn      what the test says; `stays→draws`, `drawn→draws` the other way
-- The order that the test makes of points is in `DrawsOrder.antt`.
use Rattle.std.specs.Prelude.{◌≡◌, Bool, not, ◌&&◌, ◌||◌, [], ◌∷◌, ◌+ℤ◌, ◌-ℤ◌, ◌*ℤ◌, ◌≤ℤ◌, ◌<ℤ◌}
use Rattle.std.proofs.Math.Path.{refl}
use Rattle.std.proofs.Common.{subst, true≢false, arith}
use Rattle.std.proofs.Math.Bool.{true, false}
use Rattle.std.proofs.lemmas.Bool.{false≢true}
use Rattle.std.proofs.Math.IntN.{pos}
use Rattle.std.specs.Int.Signed.{lt_z, <ℤ_irrefl}
use Rattle.integer.specs.Ring.{ring, reify}
use Rattle.integer.specs.Linear.{linear, lia, ◌&◌}
use Rattle.integer.specs.Order.{◌<×<◌, ◌<×≤◌, ◌≡×◌, contra<, contra≤, weaken, lt_z-true, lt_z-false, le_z-true, le_z-false, lt-le_z}
use Rattle.integer.specs.Order.{le-le_z}
use Rattle.plane.specs.Point.{Point, opposite, ◌⊖◌}
use Rattle.plane.specs.Turn.{turn, cross}
use Rattle.plane.specs.Direction.{value}
use Rattle.plane.specs.Tangent.{sign_of, on_side}
use Rattle.plane.proofs.theory.forms.Vector.{⊖-zero, square-positive, turned_lt}
use Rattle.tangents.specs.Draws.{draws}
use Rattle.tangents.specs.theory.Sides.{sign-not, sign_zero, side_left, side_right}

-- ---- the test, as code makes it: by the turn's own sign

module _ (p q x : Point) where
  pub draws-right : (s : Bool) → turn p q x <ℤ pos 0 → draws s p q x ≡ s
  unfolding draws on_side
  draws-right true h = rw (side_left (turn p q x), lt-le_z h)
  draws-right false h = rw (side_right (turn p q x), le-le_z (weaken h), side_left (turn p q x), lt-le_z h)

  pub draws-left : (s : Bool) → pos 0 <ℤ turn p q x → draws s p q x ≡ not s
  unfolding draws on_side
  draws-left true h = rw (side_left (turn p q x), le-le_z (weaken h), side_right (turn p q x), lt-le_z h)
  draws-left false h = rw (side_right (turn p q x), lt-le_z h)

  pub draws-along : (s : Bool) → turn p q x ≡ pos 0 → draws s p q x ≡ lt_z (pos 0) (value (q ⊖ p) (x ⊖ p))
  unfolding draws on_side
  draws-along true h = rw (side_left (turn p q x), side_right (turn p q x), h)
  draws-along false h = rw (side_left (turn p q x), side_right (turn p q x), h)

-- ---- a line that rises in d

pub record Rises (d p q : Point) : Type 0 where
  pub up : value d p <ℤ value d q

pub rise-gap : {d p q : Point} → Rises d p q → pos 0 <ℤ (value d q -ℤ value d p)
rise-gap {d} {p} {q} h = lia (value d p ∷ value d q ∷ []) h.up (search linear depth 40) (omega arith)

-- the line, turned round, rises in the opposite direction
pub rise-back : {d p q : Point} → Rises d p q → Rises (opposite d) q p
rise-back {d} {p} {q} h = record { up = turned_lt d p q h.up }

pub value-back : (d p q : Point) → value (opposite d) (q ⊖ p) ≡ value d p -ℤ value d q
unfolding value
value-back d p q = ring (d.x ∷ d.y ∷ p.x ∷ p.y ∷ q.x ∷ q.y ∷ []) (search reify depth 40) tt

-- ---- the facts

pub record Stays (s : Bool) (d p q x : Point) : Type 0 where
  pub side : pos 0 ≤ℤ (sign_of s *ℤ turn p q x)
  pub near : turn p q x ≡ pos 0 → value d x ≤ℤ value d p

pub data Drawn (s : Bool) (d p q x : Point) : Type 0 where
  across : (sign_of s *ℤ turn p q x) <ℤ pos 0 → Drawn s d p q x
  ahead : turn p q x ≡ pos 0 → value d p <ℤ value d x → Drawn s d p q x

pub stays-not-drawn : {s : Bool} {d p q x : Point} → Stays s d p q x → Drawn s d p q x → ⊥
stays-not-drawn {s} {d} {p} {q} {x} h (across k) =
    lia ((sign_of s *ℤ turn p q x) ∷ []) (h.side & k) (search linear depth 40) (omega arith)
stays-not-drawn {s} {d} {p} {q} {x} h (ahead e k) =
    lia (value d p ∷ value d x ∷ []) (h.near e & k) (search linear depth 40) (omega arith)

-- x - p along the line and in d
along-line : (d p q x : Point) → (value d q -ℤ value d p) *ℤ value (q ⊖ p) (x ⊖ p)
    ≡ (value d x -ℤ value d p) *ℤ value (q ⊖ p) (q ⊖ p) +ℤ turn p q x *ℤ cross d (q ⊖ p)
unfolding value turn cross
along-line d p q x =
    ring (d.x ∷ d.y ∷ p.x ∷ p.y ∷ q.x ∷ q.y ∷ x.x ∷ x.y ∷ []) (search reify depth 40) tt

pub rise-positive : {d p q : Point} → Rises d p q → pos 0 <ℤ value (q ⊖ p) (q ⊖ p)
rise-positive {d} {p} {q} h = square-positive (q ⊖ p)
    (record { non_zero = λ e. <ℤ_irrefl (subst (λ z. value d z <ℤ value d q) (⊖-zero p q e) h.up) })

module _ (s : Bool) {d p q : Point} (x : Point) (rise : Rises d p q) where
  -- on the line, what is ahead of p is further in d
  on_line : turn p q x ≡ pos 0 → (value d q -ℤ value d p) *ℤ value (q ⊖ p) (x ⊖ p) ≡ (value d x -ℤ value d p) *ℤ value (q ⊖ p) (q ⊖ p)
  on_line e = lia (value d p ∷ value d q ∷ value d x ∷ value (q ⊖ p) (x ⊖ p) ∷ value (q ⊖ p) (q ⊖ p) ∷ turn p q x ∷ cross d (q ⊖ p) ∷ [])
      (along-line d p q x & e ≡× cross d (q ⊖ p)) (search linear depth 40) (omega arith)

  not-ahead : turn p q x ≡ pos 0 → value (q ⊖ p) (x ⊖ p) ≤ℤ pos 0 → value d x ≤ℤ value d p
  not-ahead e h = contra≤ (λ g. lia
      (value d p ∷ value d q ∷ value d x ∷ value (q ⊖ p) (x ⊖ p) ∷ value (q ⊖ p) (q ⊖ p) ∷ [])
      (on_line e & rise.up <×≤ h & g <×< rise-positive rise) (search linear depth 40) (omega arith))

  is-ahead : turn p q x ≡ pos 0 → pos 0 <ℤ value (q ⊖ p) (x ⊖ p) → value d p <ℤ value d x
  is-ahead e h = contra< (λ g. lia
      (value d p ∷ value d q ∷ value d x ∷ value (q ⊖ p) (x ⊖ p) ∷ value (q ⊖ p) (q ⊖ p) ∷ [])
      (on_line e & rise.up <×< h & rise-positive rise <×≤ g) (search linear depth 40) (omega arith))

  -- on both sides is on the line
  both-sides : pos 0 ≤ℤ (sign_of s *ℤ turn p q x) → pos 0 ≤ℤ (sign_of (not s) *ℤ turn p q x) → turn p q x ≡ pos 0
  both-sides h k = sign_zero s h (lia (sign_of s ∷ sign_of (not s) ∷ turn p q x ∷ []) (k & sign-not s ≡× turn p q x)
      (search linear depth 40) (omega arith))

  pub draws→stays : draws s p q x ≡ false → Stays s d p q x
  unfolding draws on_side
  draws→stays h = go (on_side s p q x) refl (on_side (not s) p q x) refl h
    where
      go : (a : Bool) → on_side s p q x ≡ a → (b : Bool) → on_side (not s) p q x ≡ b
          → (not a || (b && lt_z (pos 0) (value (q ⊖ p) (x ⊖ p)))) ≡ false → Stays s d p q x
      go false e b f k = absurd (true≢false k)
      go true e false f k = record {
        side = le_z-true e;
        near = λ z. absurd (lia (sign_of (not s) ∷ turn p q x ∷ [])
            (le_z-false {x = pos 0} {y = sign_of (not s) *ℤ turn p q x} f & z ≡× sign_of (not s)) (search linear depth 40) (omega arith));
      }
      go true e true f k = record { side = le_z-true e; near = λ z. not-ahead z (lt_z-false k) }

  pub draws→drawn : draws s p q x ≡ true → Drawn s d p q x
  unfolding draws on_side
  draws→drawn h = go (on_side s p q x) refl (on_side (not s) p q x) refl h
    where
      go : (a : Bool) → on_side s p q x ≡ a → (b : Bool) → on_side (not s) p q x ≡ b
          → (not a || (b && lt_z (pos 0) (value (q ⊖ p) (x ⊖ p)))) ≡ true → Drawn s d p q x
      go false e b f k = across (le_z-false e)
      go true e false f k = absurd (false≢true k)
      go true e true f k = let z = both-sides (le_z-true e) (le_z-true f) in ahead z (is-ahead z (lt_z-true k))

  pub stays→draws : Stays s d p q x → draws s p q x ≡ false
  stays→draws h = go (draws s p q x) refl
    where
      go : (b : Bool) → draws s p q x ≡ b → b ≡ false
      go true e = absurd (stays-not-drawn h (draws→drawn e))
      go false e = refl

  pub drawn→draws : Drawn s d p q x → draws s p q x ≡ true
  drawn→draws h = go (draws s p q x) refl
    where
      go : (b : Bool) → draws s p q x ≡ b → b ≡ true
      go true e = refl
      go false e = absurd (stays-not-drawn (draws→stays e) h)
