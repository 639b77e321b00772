-- In a direction that faces the least distance the nearest candidate is the first that is reached.
--     Held A B n t            every corner of A is at least t above every corner of B in n; `facing-held`: the reached corners are t apart
--     At A B n t c            candidate c is at t·t over the squared length of n; `reached-at`: those that are reached
--     candidate-whole         what a candidate's fraction is divided by is positive
--     nearest-reached         the nearest is reached
--     nearest-earliest        none that is reached is earlier
--     nearest-is              so the first that is reached is the nearest
--     nearest-no-further      no candidate is nearer
--     tie-after               a candidate as near as the nearest is the nearest, or comes after it
use Rattle.std.specs.Prelude.{◌≡◌, true, List, [], ◌∷◌, ℕ, ◌<◌, ℤ, pos, ◌+ℤ◌, ◌-ℤ◌, ◌*ℤ◌, length, ◌≤ℤ◌, ◌<ℤ◌}
use Rattle.std.proofs.Common.{sym, subst, arith}
use Rattle.integer.specs.Ring.{ring, reify}
use Rattle.integer.specs.Linear.{linear, lia, ◌&◌}
use Rattle.integer.specs.Order.{◌<×<◌, ◌<×≤◌, ◌≡×◌, contra≤, le_antisym, le_z-true, le-le_z, zero-factor}
use Rattle.plane.specs.Point.{Point, corner, opposite}
use Rattle.plane.specs.Shape.{next}
use Rattle.plane.specs.Direction.{value}
use Rattle.plane.specs.Measure.{squared, edge_squared}
use Rattle.plane.specs.Clearance.{Candidate, corners, on_second, on_first, top, bottom, no_further, nearest}
use Rattle.plane.proofs.theory.lists.Members.{position-member}
use Rattle.plane.proofs.theory.lists.Next.{next-below}
use Rattle.plane.proofs.theory.forms.Vector.{value-turned, square-positive, opposite-opposite, below-non-zero}
use Rattle.clearance.specs.Order.{Earlier, AtOrAfter, itself, after, Listed}
use Rattle.clearance.specs.Facing.{Lowest, Reached, Facing}
use Rattle.clearance.specs.theory.Candidates.{least-listed, least-passes, least_first}
use Rattle.clearance.specs.theory.Bound.{pair-bound, pair-attains, pair-attained}
use Rattle.clearance.specs.theory.Bound.{foot-positive, foot-bound, foot-attains, foot-attained}

-- ---- fractions: those at s over nn, of candidates that are not below it

module _ (nn s t c d u v : ℤ) (some : pos 0 <ℤ nn) (c-some : pos 0 <ℤ c) (d-some : pos 0 <ℤ d) where
  -- t/c is at s/nn, and u/d is not below it
  fraction-keep : t *ℤ nn ≡ s *ℤ c → (s *ℤ d) ≤ℤ (u *ℤ nn) → (t *ℤ d) ≤ℤ (u *ℤ c)
  fraction-keep e h = contra≤ (λ g. lia (nn ∷ s ∷ t ∷ c ∷ d ∷ u ∷ []) (some <×< g & e ≡× d & c-some <×≤ h) (search linear depth 40)
      (omega arith))

  -- u/d is at s/nn, and t/c no further than it
  fraction-lose : (s *ℤ c) ≤ℤ (t *ℤ nn) → u *ℤ nn ≡ s *ℤ d → (t *ℤ d) ≤ℤ (u *ℤ c) → t *ℤ nn ≡ s *ℤ c
  fraction-lose h e k = le_antisym (contra≤ (λ g. lia (nn ∷ s ∷ t ∷ c ∷ d ∷ u ∷ [])
      (d-some <×< g & e ≡× c & some <×≤ k) (search linear depth 40) (omega arith))) h

-- ---- the direction turned round

pub turned-square : (n : Point) → value (opposite n) (opposite n) ≡ value n n
unfolding value
turned-square n = ring (n.x ∷ n.y ∷ []) (search reify depth 40) tt

pub lowest-back : {n : Point} {ps : List Point} {i : ℕ} → Lowest (opposite (opposite n)) ps i → Lowest n ps i
lowest-back {n} {ps} {i} l = subst (λ m. Lowest m ps i) (opposite-opposite n) l

pub lowest-twice : {n : Point} {ps : List Point} {i : ℕ} → Lowest n ps i → Lowest (opposite (opposite n)) ps i
lowest-twice {n} {ps} {i} l = subst (λ m. Lowest m ps i) (sym (opposite-opposite n)) l

-- ---- the shapes held apart

pub record Held (A B : List Point) (n : Point) (t : ℤ) : Type 0 where
  pub some : pos 0 <ℤ t
  pub held : (i j : ℕ) → i < length A → j < length B → (value n (corner B j) +ℤ t) ≤ℤ value n (corner A i)
  pub low : ℕ
  pub high : ℕ
  pub low-in : low < length A
  pub high-in : high < length B
  pub exact : value n (corner A low) ≡ value n (corner B high) +ℤ t

pub facing-held : {A B : List Point} {n : Point} → Facing A B n → (t : ℤ) × Held A B n t
facing-held {A} {B} {n} f = go f.some f.reached
  where
    made : {i j : ℕ} → Lowest n A i → Lowest (opposite n) B j → (t : ℤ) × Held A B n t
    made {i} {j} l h = (
      value n (corner A i) -ℤ value n (corner B j),
      record {
        some = lia (value n (corner A i) ∷ value n (corner B j) ∷ [])
            (f.above _ _ (position-member A i l.within) (position-member B j h.within)) (search linear depth 40) (omega arith);
        held = λ k m p q. lia (value n (corner A i) ∷ value n (corner B j) ∷ value n (corner A k) ∷ value n (corner B m)
            ∷ value (opposite n) (corner B j) ∷ value (opposite n) (corner B m) ∷ [])
            (l.lowest k p & h.lowest m q & value-turned n (corner B j) & value-turned n (corner B m)) (search linear depth 40)
            (omega arith);
        low = i;
        high = j;
        low-in = l.within;
        high-in = h.within;
        exact = ring (value n (corner A i) ∷ value n (corner B j) ∷ []) (search reify depth 40) tt;
      },
    )

    go : (c : Candidate) → Reached A B n c → (t : ℤ) × Held A B n t
    go (corners i j) r = made r.one r.other
    go (on_second i e) r = made r.from r.start
    go (on_first j e) r = made (lowest-back r.start) r.from

-- candidate c is at t·t over the squared length of n
pub record At (A B : List Point) (n : Point) (t : ℤ) (c : Candidate) : Type 0 where
  pub at : top A B c *ℤ value n n ≡ t *ℤ t *ℤ bottom A B c

-- what a candidate's fraction is divided by is positive
pub candidate-whole : (A B : List Point) (c : Candidate) → Listed A B c → pos 0 <ℤ bottom A B c
unfolding bottom edge_squared
candidate-whole A B (corners i j) l = record { lt = tt }
candidate-whole A B (on_second i e) (p, q, r) = foot-positive (corner B e) (corner B (next (length B) e)) (corner A i) r
candidate-whole A B (on_first j e) (p, q, r) = foot-positive (corner A e) (corner A (next (length A) e)) (corner B j) r

record Good (A B : List Point) (n : Point) (t : ℤ) (c : Candidate) : Type 0 where
  whole : pos 0 <ℤ bottom A B c
  bound : (t *ℤ t *ℤ bottom A B c) ≤ℤ (top A B c *ℤ value n n)

module _ (A B : List Point) (n : Point) (t : ℤ) (h : Held A B n t) where
  pub held-square : pos 0 <ℤ value n n
  held-square = square-positive n (below-non-zero n (corner B h.high) (corner A h.low)
      (lia (value n (corner A h.low) ∷ value n (corner B h.high) ∷ t ∷ []) (h.some & h.exact)
      (search linear depth 40) (omega arith)))

  -- corner j of B against corner i of A, in the direction turned round
  turned-held : (i j : ℕ) → i < length A → j < length B → (value (opposite n) (corner A i) +ℤ t) ≤ℤ value (opposite n) (corner B j)
  turned-held i j p q =
      lia (value n (corner A i) ∷ value n (corner B j) ∷ value (opposite n) (corner A i) ∷ value (opposite n) (corner B j) ∷ t ∷ [])
      (h.held i j p q & value-turned n (corner A i) & value-turned n (corner B j)) (search linear depth 40) (omega arith)

  -- two corners that are t apart are the lowest and the highest
  pub touched-low : (i j : ℕ) → i < length A → j < length B → value n (corner A i) ≡ value n (corner B j) +ℤ t → Lowest n A i
  touched-low i j p q e = record {
    within = p;
    lowest = λ k r. lia (value n (corner A i) ∷ value n (corner B j) ∷ value n (corner A k) ∷ t ∷ []) (e & h.held k j r q)
        (search linear depth 40) (omega arith);
  }

  pub touched-high : (i j : ℕ) → i < length A → j < length B → value n (corner A i) ≡ value n (corner B j) +ℤ t → Lowest (opposite n) B j
  touched-high i j p q e = record {
    within = q;
    lowest = λ k r. lia (value n (corner A i) ∷ value n (corner B j) ∷ value n (corner B k)
        ∷ value (opposite n) (corner B j) ∷ value (opposite n) (corner B k) ∷ t ∷ [])
        (e & h.held i k p r & value-turned n (corner B j) & value-turned n (corner B k)) (search linear depth 40) (omega arith);
  }

  -- and back
  lowest-touch : {i j : ℕ} → Lowest n A i → Lowest (opposite n) B j → value n (corner A i) ≡ value n (corner B j) +ℤ t
  lowest-touch {i} {j} l m = lia (value n (corner A i) ∷ value n (corner B j) ∷ value n (corner A h.low) ∷ value n (corner B h.high)
      ∷ value (opposite n) (corner B j) ∷ value (opposite n) (corner B h.high) ∷ t ∷ [])
      (l.lowest h.low h.low-in & m.lowest h.high h.high-in & h.exact & h.held i j l.within m.within
      & value-turned n (corner B j) & value-turned n (corner B h.high)) (search linear depth 40) (omega arith)

  turned-touch : (i j : ℕ) → value (opposite n) (corner B j) ≡ value (opposite n) (corner A i) +ℤ t
      → value n (corner A i) ≡ value n (corner B j) +ℤ t
  turned-touch i j e =
      lia (value n (corner A i) ∷ value n (corner B j) ∷ value (opposite n) (corner A i) ∷ value (opposite n) (corner B j) ∷ t ∷ [])
      (e & value-turned n (corner A i) & value-turned n (corner B j)) (search linear depth 40) (omega arith)

  touch-turned : (i j : ℕ) → value n (corner A i) ≡ value n (corner B j) +ℤ t
      → value (opposite n) (corner B j) ≡ value (opposite n) (corner A i) +ℤ t
  touch-turned i j e =
      lia (value n (corner A i) ∷ value n (corner B j) ∷ value (opposite n) (corner A i) ∷ value (opposite n) (corner B j) ∷ t ∷ [])
      (e & value-turned n (corner A i) & value-turned n (corner B j)) (search linear depth 40) (omega arith)

  -- ---- no candidate is below it

  not-below : (c : Candidate) → Listed A B c → (t *ℤ t *ℤ bottom A B c) ≤ℤ (top A B c *ℤ value n n)
  unfolding top bottom edge_squared
  not-below (corners i j) (p, q) = lia (squared (corner A i) (corner B j) ∷ value n n ∷ t ∷ [])
      (pair-bound n (corner A i) (corner B j) t h.some (h.held i j p q))
      (search linear depth 40) (omega arith)
  not-below (on_second i e) (p, q, r) = foot-bound n (corner B e) (corner B (next (length B) e)) (corner A i) t h.some r (h.held i e p q)
      (h.held i (next (length B) e) p (next-below (length B) e q))
  not-below (on_first j e) (p, q, r) = rw (← turned-square n) (foot-bound (opposite n) (corner A e) (corner A (next (length A) e))
      (corner B j) t h.some r (turned-held e j q p) (turned-held (next (length A) e) j (next-below (length A) e q) p))

  good : (c : Candidate) → Listed A B c → Good A B n t c
  good c l = record { whole = candidate-whole A B c l; bound = not-below c l }

  -- ---- those at it are those that are reached

  pub reached-listed : (c : Candidate) → Reached A B n c → Listed A B c
  reached-listed (corners i j) r = (r.one.within, r.other.within)
  reached-listed (on_second i e) r = (r.from.within, r.start.within, r.inside)
  reached-listed (on_first j e) r = (r.from.within, r.start.within, r.inside)

  pub reached-at : (c : Candidate) → Reached A B n c → At A B n t c
  unfolding top bottom edge_squared
  reached-at (corners i j) r = record {
    at = lia (squared (corner A i) (corner B j) ∷ value n n ∷ t ∷ [])
        (pair-attains n (corner A i) (corner B j) t h.some (lowest-touch r.one r.other) r.along) (search linear depth 40)
        (omega arith);
  }
  reached-at (on_second i e) r = record {
    at = foot-attains n (corner B e) (corner B (next (length B) e)) (corner A i) t h.some r.inside
        (lowest-touch r.from r.start) (lowest-touch r.from r.end);
  }
  reached-at (on_first j e) r = record {
    at = rw (← turned-square n) (foot-attains (opposite n) (corner A e) (corner A (next (length A) e)) (corner B j) t h.some r.inside
        (touch-turned e j (lowest-touch (lowest-back r.start) r.from))
        (touch-turned (next (length A) e) j (lowest-touch (lowest-back r.end) r.from)));
  }

  at-reached : (c : Candidate) → Listed A B c → At A B n t c → Reached A B n c
  unfolding top bottom edge_squared
  at-reached (corners i j) (p, q) f =
      let level : squared (corner A i) (corner B j) *ℤ value n n ≡ t *ℤ t = lia (squared (corner A i) (corner B j) ∷ value n n ∷ t ∷ [])
      f.at (search linear depth 40) (omega arith) in
      let r = pair-attained n (corner A i) (corner B j) t h.some (h.held i j p q) level in
      record { one = touched-low i j p q r.0; other = touched-high i j p q r.0; along = r.1 }
  at-reached (on_second i e) (p, q, s) f =
      let after-in = next-below (length B) e q in
      let r = foot-attained n (corner B e) (corner B (next (length B) e)) (corner A i) t h.some s (h.held i e p q)
      (h.held i (next (length B) e) p after-in) f.at in
      record {
        from = touched-low i e p q r.0;
        start = touched-high i e p q r.0;
        end = touched-high i (next (length B) e) p after-in r.1;
        inside = s;
      }
  at-reached (on_first j e) (p, q, s) f =
      let after-in = next-below (length A) e q in
      let r = foot-attained (opposite n) (corner A e) (corner A (next (length A) e)) (corner B j) t h.some s
      (turned-held e j q p) (turned-held (next (length A) e) j after-in p) (rw (turned-square n) f.at) in
      let start-touch = turned-touch e j r.0 in
      record {
        from = touched-high e j q p start-touch;
        start = lowest-twice (touched-low e j q p start-touch);
        end = lowest-twice (touched-low (next (length A) e) j after-in p (turned-touch (next (length A) e) j r.1));
        inside = s;
      }

  -- ---- the test

  keep : (c d : Candidate) → Good A B n t c → Good A B n t d → At A B n t c → no_further A B c d ≡ true
  unfolding no_further
  keep c d g k p = le-le_z (fraction-keep (value n n) (t *ℤ t) (top A B c) (bottom A B c) (bottom A B d) (top A B d) (pos 0)
      held-square g.whole k.whole p.at k.bound)

  lose : (c d : Candidate) → Good A B n t c → Good A B n t d → At A B n t d → no_further A B c d ≡ true → At A B n t c
  unfolding no_further
  lose c d g k p e = record {
    at = fraction-lose (value n n) (t *ℤ t) (top A B c) (bottom A B c) (bottom A B d) (top A B d) (pos 0)
        held-square g.whole k.whole g.bound p.at (le_z-true e);
  }

  module _ (a : 0 < length A) (b : 0 < length B) where
    pub nearest-listed : Listed A B (nearest A B)
    unfolding nearest
    nearest-listed = least-listed (no_further A B) (Good A B n t) (At A B n t) keep lose A B a b good

    at-nearest : (c : Candidate) → Listed A B c → At A B n t c → At A B n t (nearest A B)
    unfolding nearest
    at-nearest = least-passes (no_further A B) (Good A B n t) (At A B n t) keep lose A B a b good

    at_first : (c : Candidate) → Listed A B c → At A B n t c → AtOrAfter (nearest A B) c
    unfolding nearest
    at_first = least_first (no_further A B) (Good A B n t) (At A B n t) keep lose A B a b good

module _ (A B : List Point) (a : 0 < length A) (b : 0 < length B) (n : Point) (f : Facing A B n) where
  abbrev held_by : (t : ℤ) × Held A B n t
  held_by = facing-held f

  pub nearest-at : At A B n held_by.0 (nearest A B)
  nearest-at = at-nearest A B n held_by.0 held_by.1 a b f.some
      (reached-listed A B n held_by.0 held_by.1 f.some f.reached)
      (reached-at A B n held_by.0 held_by.1 f.some f.reached)

  pub nearest-reached : Reached A B n (nearest A B)
  nearest-reached = at-reached A B n held_by.0 held_by.1 (nearest A B) (nearest-listed A B n held_by.0 held_by.1 a b) nearest-at

  pub nearest-earliest : (c : Candidate) → Reached A B n c → AtOrAfter (nearest A B) c
  nearest-earliest c r = at_first A B n held_by.0 held_by.1 a b c (reached-listed A B n held_by.0 held_by.1 c r)
      (reached-at A B n held_by.0 held_by.1 c r)

  pub nearest-is : (c : Candidate) → Reached A B n c → ((d : Candidate) → Reached A B n d → Earlier d c → ⊥) → nearest A B ≡ c
  nearest-is c r none = go (nearest-earliest c r)
    where
      go : AtOrAfter (nearest A B) c → nearest A B ≡ c
      go (itself e) = sym e
      go (after k) = absurd (none (nearest A B) nearest-reached k)

  pub nearest-no-further : (c : Candidate) → Listed A B c
      → (top A B (nearest A B) *ℤ bottom A B c) ≤ℤ (top A B c *ℤ bottom A B (nearest A B))
  unfolding no_further
  nearest-no-further c l = le_z-true (keep A B n held_by.0 held_by.1 (nearest A B) c
      (good A B n held_by.0 held_by.1 (nearest A B) (nearest-listed A B n held_by.0 held_by.1 a b))
      (good A B n held_by.0 held_by.1 c l) nearest-at)

  -- those of the same fraction are at the nearest or after it
  pub tie-after : (c : Candidate) → Listed A B c → top A B c *ℤ bottom A B (nearest A B) ≡ top A B (nearest A B) *ℤ bottom A B c
      → AtOrAfter (nearest A B) c
  tie-after c l e = at_first A B n held_by.0 held_by.1 a b c l (record {
    at = cancel (value n n) (held_by.0 *ℤ held_by.0)
        (top A B (nearest A B)) (bottom A B (nearest A B)) (top A B c) (bottom A B c)
        (candidate-whole A B (nearest A B) (nearest-listed A B n held_by.0 held_by.1 a b)) nearest-at.at e;
  })
    where
      cancel : (nn s t c u d : ℤ) → pos 0 <ℤ c → t *ℤ nn ≡ s *ℤ c → u *ℤ c ≡ t *ℤ d → u *ℤ nn ≡ s *ℤ d
      cancel nn s t c u d p e f =
          let same : c *ℤ (u *ℤ nn -ℤ s *ℤ d) ≡ pos 0 = lia (nn ∷ s ∷ t ∷ c ∷ u ∷ d ∷ []) (e ≡× d & f ≡× nn) (search linear depth 40)
          (omega arith) in
          let flat = zero-factor p same in
          lia (nn ∷ s ∷ u ∷ d ∷ []) flat (search linear depth 40) (omega arith)
