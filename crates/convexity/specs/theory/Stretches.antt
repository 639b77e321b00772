-- A stretch of edges, one by one, and what the test of two edges says.
--     Along E half s k                the edges from s to k go on: the pass is on its way
--     along-start, along-more, along-end     its moves: the first edge; one edge more; no edge more
--     edge-from, edge-home            the edge that leaves a corner; the one back to the first
--     other_half, own-half            the test by the rise of the second edge, as code makes it
--     goes-up, goes_down              what it says where it passes
--     goes-by-rise                    after a left turn the rise decides
--     rising-up, falls-on             two edges with a left turn: the first is up if neither goes down; after one down comes no level one
--     up→before, down→before          the first edge is before the second by angle
use Rattle.std.specs.Prelude.{◌≡◌, refl, Bool, true, false, cond, ◌&&◌, List, [], ◌∷◌, ℕ, suc, ◌+◌, ◌≤◌, ◌<◌, ℤ, pos, length, ◌≤ℤ◌, ◌<ℤ◌}
use Rattle.std.proofs.Common.{sym, ◌∙◌, true≢false, add-one, arith, below_more, eq-eqb, ne_eqb}
use Rattle.std.proofs.Math.Path.{ap}
use Rattle.std.specs.Bool.{beq}
use Rattle.std.proofs.Math.Bool.{and-eq-true_iff}
use Rattle.std.specs.Int.Signed.{lt_z, le_z}
use Rattle.integer.specs.Linear.{linear, lia, ◌&◌}
use Rattle.integer.specs.Order.{contra<, contra≤, le_antisym, ◌≤×≤◌, ◌≡×◌, lt_z-true, lt_z-false, le_z-true, le_z-false, lt-lt_z, le-lt_z}
use Rattle.plane.specs.Point.{Point, corner, origin, ◌⊖◌, opposite}
use Rattle.plane.specs.Turn.{cross}
use Rattle.plane.specs.Shape.{next}
use Rattle.plane.specs.Forms.{Before, edges, up}
use Rattle.plane.proofs.theory.forms.Precedes.{precedes-below, precedes-above, precedes-level}
use Rattle.plane.proofs.theory.forms.Angle.{Earlier, apart, alike, before→earlier, before-cross}
use Rattle.plane.proofs.theory.sum.Positions.{edges_some, edge_at}
use Rattle.convexity.specs.Stretch.{goes_on, Stretch}

-- ---- a stretch, edge by edge

pub record Along (E : List Point) (half : Bool) (s k : ℕ) : Type 0 where
  pub begins : s ≤ k
  pub ends : k + 2 ≤ length E
  pub on : (j : ℕ) → s ≤ j → j < k → goes_on half (corner E j) (corner E (suc j)) ≡ true

module _ {E : List Point} {half : Bool} {s : ℕ} where
  pub along-start : s + 2 ≤ length E → Along E half s s
  along-start h = record { begins = omega arith; ends = h; on = λ j a b. absurd (omega arith) }

  pub along-more : (k : ℕ) → Along E half s k → k + 2 < length E → goes_on half (corner E k) (corner E (k + 1)) ≡ true
      → Along E half s (k + 1)
  along-more k p h g = record {
    begins = omega (arith, p.begins);
    ends = omega arith;
    on = λ j a b. below_more (λ m. s ≤ m → goes_on half (corner E m) (corner E (suc m)) ≡ true) k (λ m l q. p.on m q l)
        (λ q. rw add-one at g) j b a;
  }

  pub along-end : (k : ℕ) → Along E half s k → (k + 2 < length E → goes_on half (corner E k) (corner E (k + 1)) ≡ false)
      → Stretch E half s k
  along-end k p g = record { begins = p.begins; ends = p.ends; on = p.on; stops = rw add-one at g }

-- the edge that leaves a corner, and the one back to the first
pub edge-from : (ps : List Point) (k : ℕ) → k + 1 < length ps → corner ps (k + 1) ⊖ corner ps k ≡ corner (edges ps) k
edge-from ps k h =
    let on : next (length ps) k ≡ k + 1 = rw (ne_eqb (k + 1) (length ps) (λ q. omega arith)) in
    sym (rw on at (edge_at ps k (omega (arith, edges_some ps (omega arith)))))

pub edge-home : (ps : List Point) (k : ℕ) → 1 < length ps → k + 1 ≡ length ps → corner ps 0 ⊖ corner ps k ≡ corner (edges ps) k
edge-home ps k some h =
    let home : next (length ps) k ≡ 0 = rw (eq-eqb (k + 1) (length ps) h) in
    sym (rw home at (edge_at ps k (omega (arith, edges_some ps some))))

-- ---- what the test says

-- the half by one comparison
half_is : (half : Bool) (z : ℤ) → cond half (le_z (pos 0) z) (lt_z z (pos 0)) ≡ beq (le_z (pos 0) z) half
half_is true z = go (le_z (pos 0) z)
  where
    go : (b : Bool) → b ≡ beq b true
    go true = refl
    go false = refl
half_is false z = go (le_z (pos 0) z) refl
  where
    go : (b : Bool) → le_z (pos 0) z ≡ b → lt_z z (pos 0) ≡ beq b false
    go true h = le-lt_z {x = z} {y = pos 0} (le_z-true h)
    go false h = lt-lt_z {x = z} {y = pos 0} (le_z-false h)

module _ (half : Bool) (e f : Point) where
  pub other_half : beq (le_z (pos 0) f.y) half ≡ false → goes_on half e f ≡ false
  unfolding goes_on
  other_half h = ap (λ b. b && lt_z (pos 0) (cross e f)) (half_is half f.y ∙ h)

  pub own-half : beq (le_z (pos 0) f.y) half ≡ true → goes_on half e f ≡ lt_z (pos 0) (cross e f)
  unfolding goes_on
  own-half h = ap (λ b. b && lt_z (pos 0) (cross e f)) (half_is half f.y ∙ h)

pub goes-up : (e f : Point) → goes_on true e f ≡ true → (pos 0 ≤ℤ f.y) × (pos 0 <ℤ cross e f)
unfolding goes_on
goes-up e f h =
    let t = (and-eq-true_iff (le_z (pos 0) f.y) (lt_z (pos 0) (cross e f))).0 h in
    (le_z-true t.0, lt_z-true t.1)

pub goes_down : (e f : Point) → goes_on false e f ≡ true → (f.y <ℤ pos 0) × (pos 0 <ℤ cross e f)
unfolding goes_on
goes_down e f h =
    let t = (and-eq-true_iff (lt_z f.y (pos 0)) (lt_z (pos 0) (cross e f))).0 h in
    (lt_z-true t.0, lt_z-true t.1)

and-true : (a b : Bool) → b ≡ true → (a && b) ≡ a
and-true true b h = h
and-true false b h = refl

-- after a left turn the rise decides
pub goes-by-rise : (half : Bool) (e f : Point) → pos 0 <ℤ cross e f → goes_on half e f ≡ cond half (le_z (pos 0) f.y) (lt_z f.y (pos 0))
unfolding goes_on
goes-by-rise half e f h = and-true (cond half (le_z (pos 0) f.y) (lt_z f.y (pos 0))) (lt_z (pos 0) (cross e f)) (lt-lt_z h)

-- ---- edges and the halves

falling-down : (e : Point) → e.y <ℤ pos 0 → up e ≡ false
falling-down e h = precedes-above origin e h

-- of two edges that do not go down, with a left turn, the first is not level to the left
pub rising-up : (e f : Point) → pos 0 ≤ℤ e.y → pos 0 ≤ℤ f.y → pos 0 <ℤ cross e f → up e ≡ true
unfolding cross
rising-up e f h k t = go (up e) refl
  where
    go : (s : Bool) → up e ≡ s → s ≡ true
    go true q = refl
    go false q =
        let low : e.y ≤ℤ pos 0 = contra≤ (λ g. true≢false (sym (precedes-below origin e g) ∙ q)) in
        let back : e.x ≤ℤ pos 0 = lt_z-false (sym (precedes-level origin e h low) ∙ q) in
        absurd (lia (e.x ∷ e.y ∷ f.x ∷ f.y ∷ []) (t & back ≤×≤ k & (le_antisym low h ≡× f.x)) (search linear depth 40) (omega arith))

-- after an edge that goes down comes no level one
pub falls-on : (e f : Point) → e.y <ℤ pos 0 → Before e f → pos 0 <ℤ cross e f → f.y <ℤ pos 0
unfolding cross
falls-on e f h b t = contra< (λ g. true≢false (sym (level g) ∙ down (before→earlier b)))
  where
    down : Earlier e f → up f ≡ false
    down (apart u v) = v
    down (alike s c) = sym s ∙ falling-down e h

    level : pos 0 ≤ℤ f.y → up f ≡ true
    level g = rising-up f (opposite e) g (lia (e.y ∷ []) h (search linear depth 40) (omega arith))
        (lia (e.x ∷ e.y ∷ f.x ∷ f.y ∷ []) t (search linear depth 40) (omega arith))

pub up→before : (e f : Point) → pos 0 ≤ℤ e.y → goes_on true e f ≡ true → Before e f
up→before e f h g =
    let u = goes-up e f g in
    before-cross e f u.1 (λ d w. true≢false (sym (rising-up e f h u.0 u.1) ∙ d))

pub down→before : (e f : Point) → goes_on false e f ≡ true → Before e f
down→before e f g =
    let d = goes_down e f g in
    before-cross e f d.1 (λ n w. true≢false (sym w.precedes-true ∙ falling-down f d.0))
