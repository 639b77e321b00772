-- One pass over the corners: edges that go on up, then down, and close make a shape, and those of every shape do.
--     point-shape, pair-shape         one corner is a shape, and two of which the first precedes the other
--     round-shape                     three or more are if the first precedes the second, the edges go on up, then down, and so to the last
--     shape-begins                    a shape's first corner precedes its second
--     shape-falls                     its edges go on up, then down, up to the closing one
--     shape-closes                    and so does that
use Rattle.std.specs.Prelude.{◌≡◌, refl, Bool, true, false, List, [], ◌∷◌, ℕ, zero, suc, ◌+◌, ◌-◌, ◌≤◌, ◌<◌, ltb, pos, length, ◌≤ℤ◌, ◌<ℤ◌}
use Rattle.std.proofs.Common.{sym, ◌∙◌, ap, true≢false, arith, ltb-true, ltb-false}
use Rattle.integer.specs.Linear.{linear, lia}
use Rattle.integer.specs.Order.{contra<, le_z-false, lt-lt_z}
use Rattle.plane.specs.Point.{Point, corner, origin, ◌⊖◌}
use Rattle.plane.specs.Turn.{cross}
use Rattle.plane.specs.Shape.{next, precedes, IsShape}
use Rattle.plane.specs.Forms.{Precedes, Before, NonZero, InOrder, edges_to, edges, up}
use Rattle.plane.proofs.theory.lists.Next.{Following, onward, closing, following, next-below}
use Rattle.plane.proofs.theory.forms.Precedes.{Lower, lower, level, precedes-lower, precedes-irrefl}
use Rattle.plane.proofs.theory.forms.Vector.{cross-nonzero, turn-edges}
use Rattle.plane.proofs.theory.forms.HalfPlane.{precedes→down}
use Rattle.plane.proofs.theory.forms.Angle.{Earlier, apart, alike, before→earlier}
use Rattle.plane.proofs.theory.forms.Standard.{all-at, shape→ordered, ordered→shape, sorted→shape}
use Rattle.plane.proofs.theory.sum.Positions.{edges_some, edge_at, in-order-at, shape-in-order, next-left}
use Rattle.convexity.specs.Stretch.{goes_on, Stretch}
use Rattle.convexity.specs.theory.Stretches.{edge-home, goes-up, goes_down, goes-by-rise, rising-up, falls-on, up→before, down→before}

-- ---- edges in order

-- what is before another vector is not zero
before-non-zero : {e f : Point} → Before e f → NonZero e
before-non-zero {e} {f} b = go (before→earlier b)
  where
    go : Earlier e f → NonZero e
    go (apart u d) = record { non_zero = λ z. precedes-irrefl {p = origin} (record { precedes-true = sym (ap up z) ∙ u }) }
    go (alike s c) = (cross-nonzero c).0

passed-from : (e : Point) (E : List Point) → ((k : ℕ) → k < length E → Before (corner (e ∷ E) k) (corner (e ∷ E) (suc k)))
    → NonZero (corner (e ∷ E) (length E)) → InOrder (e ∷ E)
passed-from e [] step last = (last, tt)
passed-from e (f ∷ E) step last =
    let later = passed-from f E (λ k h. step (suc k) (omega arith)) last in
    let first = step 0 (omega arith) in
    (before-non-zero first, (first, later.0, later.1))

-- edges of which each is before the next, and the last not zero
before-shape : (ps : List Point) → 1 < length ps
    → ((k : ℕ) → suc k < length (edges ps) → Before (corner (edges ps) k) (corner (edges ps) (suc k)))
    → ((k : ℕ) → suc k ≡ length (edges ps) → NonZero (corner (edges ps) k)) → IsShape ps
before-shape [] h step last = absurd (omega arith)
before-shape (a ∷ []) h step last = absurd (omega arith)
before-shape (a ∷ (b ∷ ps)) h step last = sorted→shape (a ∷ b ∷ ps)
    (passed-from (b ⊖ a) (edges_to a b ps) (λ k g. step k (omega arith)) (last (length (edges_to a b ps)) refl))

-- ---- what passes is a shape

pub point-shape : (ps : List Point) → length ps ≡ 1 → IsShape ps
point-shape [] h = absurd (omega arith)
point-shape (p ∷ []) h = sorted→shape (p ∷ []) tt
point-shape (p ∷ (q ∷ ps)) h = absurd (omega arith)

pub pair-shape : (ps : List Point) → length ps ≡ 2 → precedes (corner ps 0) (corner ps 1) ≡ true → IsShape ps
pair-shape [] h l = absurd (omega arith)
pair-shape (p ∷ []) h l = absurd (omega arith)
pair-shape (p ∷ (q ∷ [])) h l = ordered→shape (p ∷ q ∷ []) ((record { precedes-true = l }, tt), ((tt, tt), (tt, tt)))
pair-shape (p ∷ (q ∷ (r ∷ ps))) h l = absurd (omega arith)

-- an edge up does not go down
first-rises : (ps : List Point) → 1 < length ps → precedes (corner ps 0) (corner ps 1) ≡ true → pos 0 ≤ℤ (corner (edges ps) 0).y
first-rises [] h l = absurd (omega arith)
first-rises (p ∷ []) h l = absurd (omega arith)
first-rises (p ∷ (q ∷ ps)) h l = go (precedes-lower (record { precedes-true = l }))
  where
    go : Lower p q → pos 0 ≤ℤ (q ⊖ p).y
    go (lower k) = lia (p.y ∷ q.y ∷ []) k (search linear depth 40) (omega arith)
    go (level e k) = lia (p.y ∷ q.y ∷ []) e (search linear depth 40) (omega arith)

module _ (ps : List Point) (three : 2 < length ps) (first : precedes (corner ps 0) (corner ps 1) ≡ true) (top end : ℕ)
    (rise : Stretch (edges ps) true 0 top) (fall : Stretch (edges ps) false top end) (whole : length ps ≤ end + 2)
    (close : goes_on false (corner (edges ps) (length ps - 2)) (corner (edges ps) (length ps - 1)) ≡ true) where
  -- the edges up to the top do not go down
  up_to : (k : ℕ) → k ≤ top → pos 0 ≤ℤ (corner (edges ps) k).y
  up_to zero h = first-rises ps (omega arith) first
  up_to (suc k) h = (goes-up (corner (edges ps) k) (corner (edges ps) (suc k)) (rise.on k (omega arith) (omega arith))).0

  each-before : (k : ℕ) → suc k < length (edges ps) → Before (corner (edges ps) k) (corner (edges ps) (suc k))
  each-before k h = go (ltb k top) refl (ltb k end) refl
    where
      E : List Point
      E = edges ps

      go : (a : Bool) → ltb k top ≡ a → (b : Bool) → ltb k end ≡ b → Before (corner E k) (corner E (suc k))
      go true p b q =
          let l = ltb-true k top p in
          up→before (corner E k) (corner E (suc k)) (up_to k (omega arith)) (rise.on k (omega arith) l)
      go false p true q = down→before (corner E k) (corner E (suc k)) (fall.on k (ltb-false k top p) (ltb-true k end q))
      go false p false q =
          let n = edges_some ps (omega arith) in
          let here : length ps - 2 ≡ k = omega (arith, ltb-false k end q) in
          let there : length ps - 1 ≡ suc k = omega arith in
          down→before (corner E k) (corner E (suc k)) (rw (here, there) at close)

  pub round-shape : IsShape ps
  round-shape = before-shape ps (omega arith) each-before (λ k h. rw (last k h) (cross-nonzero (goes_down _ _ close).1).1)
    where
      last : (k : ℕ) → suc k ≡ length (edges ps) → k ≡ length ps - 1
      last k h = let n = edges_some ps (omega arith) in omega arith

-- ---- every shape passes

first-precedes : (ps : List Point) → IsShape ps → (i : ℕ) → suc i < length ps → Precedes (corner ps 0) (corner ps (suc i))
first-precedes [] s i h = absurd (omega arith)
first-precedes (p ∷ ps) s i h = all-at (λ q. Precedes p q) ps (shape→ordered (p ∷ ps) s).0 i (omega arith)

pub shape-begins : (ps : List Point) → IsShape ps → 1 < length ps → precedes (corner ps 0) (corner ps 1) ≡ true
shape-begins ps s h = (first-precedes ps s 0 h).precedes-true

module _ (ps : List Point) (s : IsShape ps) (three : 2 < length ps) where
  -- each edge is strictly left of the one before it, and the first is so of the last
  edge-left : (i : ℕ) → i < length ps → pos 0 <ℤ cross (corner (edges ps) i) (corner (edges ps) (next (length ps) i))
  edge-left i h =
      let all = edges_some ps (omega arith) in
      let j = next (length ps) i in
      let k = next (length ps) j in
      let below = next-below (length ps) i h in
      rw (edge_at ps i (omega arith), edge_at ps j (omega arith), sym (turn-edges (corner ps i) (corner ps j) (corner ps k)))
      (next-left ps s three i h)

  inner-left : (k : ℕ) → suc k < length ps → pos 0 <ℤ cross (corner (edges ps) k) (corner (edges ps) (suc k))
  inner-left k h = go (following (length ps) k (omega arith))
    where
      go : Following (length ps) k → pos 0 <ℤ cross (corner (edges ps) k) (corner (edges ps) (suc k))
      go (onward l e) = rw e at (edge-left k (omega arith))
      go (closing l e) = absurd (omega arith)

  last-left : (k : ℕ) → suc k ≡ length ps → pos 0 <ℤ cross (corner (edges ps) k) (corner (edges ps) 0)
  last-left k h = go (following (length ps) k (omega arith))
    where
      go : Following (length ps) k → pos 0 <ℤ cross (corner (edges ps) k) (corner (edges ps) 0)
      go (onward l e) = absurd (omega arith)
      go (closing l e) = rw e at (edge-left k (omega arith))

  -- the edge home is not up
  home-down : (k : ℕ) → suc (suc k) ≡ length ps → up (corner (edges ps) (suc k)) ≡ false
  home-down k h =
      ap up (sym (edge-home ps (suc k) (omega arith) (omega arith))) ∙ precedes→down (first-precedes ps s k (omega arith))

  -- the edge after the stretch up goes down
  comes_down : (top : ℕ) → Stretch (edges ps) true 0 top → top + 2 < length (edges ps) → (corner (edges ps) (suc top)).y <ℤ pos 0
  comes_down top rise h =
      let n = edges_some ps (omega arith) in
      let left = inner-left top (omega arith) in
      le_z-false (sym (goes-by-rise true (corner (edges ps) top) (corner (edges ps) (suc top)) left) ∙ rise.stops h)

  pub shape-falls : (top end : ℕ) → Stretch (edges ps) true 0 top → Stretch (edges ps) false top end → length ps ≤ end + 2
  shape-falls top end rise fall = go (ltb (end + 2) (length (edges ps))) refl (ltb top end) refl
    where
      E : List Point
      E = edges ps

      count : length E ≡ length ps
      count = edges_some ps (omega arith)

      left : end + 2 < length E → pos 0 <ℤ cross (corner E end) (corner E (suc end))
      left h = inner-left end (omega (arith, count))

      -- an edge down is followed by one
      again : end + 2 < length E → top < end → (corner E (suc end)).y <ℤ pos 0
      again h l = falls-on (corner E end) (corner E (suc end)) (down end l fall)
          (in-order-at E (shape-in-order ps s) end (suc end) (omega arith) (omega arith)) (left h)
        where
          down : (k : ℕ) → top < k → Stretch E false top k → (corner E k).y <ℤ pos 0
          down zero l fall = absurd (omega arith)
          down (suc k) l fall = (goes_down (corner E k) (corner E (suc k)) (fall.on k (omega arith) (omega arith))).0

      clash : end + 2 < length E → (corner E (suc end)).y <ℤ pos 0 → ⊥
      clash h d = true≢false (sym (lt-lt_z d) ∙ sym (goes-by-rise false (corner E end) (corner E (suc end)) (left h)) ∙ fall.stops h)

      go : (a : Bool) → ltb (end + 2) (length E) ≡ a → (b : Bool) → ltb top end ≡ b → length ps ≤ end + 2
      go false p b q = omega (arith, count, ltb-false (end + 2) (length E) p)
      go true p true q =
          let h = ltb-true (end + 2) (length E) p in
          absurd (clash h (again h (ltb-true top end q)))
      go true p false q =
          let h = ltb-true (end + 2) (length E) p in
          let same : top ≡ end = omega (arith, ltb-false top end q, fall.begins) in
          absurd (clash h (rw same at (comes_down top rise (omega arith))))

  -- the edge home goes down: were it level, the first edge would go down
  home-falls : (k : ℕ) → suc (suc k) ≡ length ps → (corner (edges ps) (suc k)).y <ℤ pos 0
  home-falls k h = contra< (λ g. true≢false (sym (rising-up (corner (edges ps) (suc k)) (corner (edges ps) 0) g
      (first-rises ps (omega arith) (shape-begins ps s (omega arith))) (last-left (suc k) h)) ∙ home-down k h))

  pub shape-closes : goes_on false (corner (edges ps) (length ps - 2)) (corner (edges ps) (length ps - 1)) ≡ true
  shape-closes = go (length ps - 2) (omega arith) (omega arith)
    where
      E : List Point
      E = edges ps

      go : (k : ℕ) → suc (suc k) ≡ length ps → suc k ≡ length ps - 1 → goes_on false (corner E k) (corner E (length ps - 1)) ≡ true
      go k h e = rw (sym e)
          (goes-by-rise false (corner E k) (corner E (suc k)) (inner-left k (omega arith)) ∙ lt-lt_z (home-falls k h))
