-- The places of a walk are told by the edges next to it.
--     follows-passed      the last edge passed is before the next of the other list: so are all that are passed
--     Ends                whether a walk is over, as a fact
--     Reaches, reach      the walk comes to every two positions at which each edge passed is before the next of the other list
--     place-test          exactly the states that pass the test are places
use Rattle.std.specs.Prelude.{◌≡◌, Bool, not, cond, ◌||◌, List, eqb, ltb, ℤ}
use Rattle.std.proofs.Math.Path.{refl}
use Rattle.std.proofs.Common.{sym, ◌∙◌, subst}
use Rattle.std.proofs.Math.Bool.{true, false, and-eq-true_iff, or-true}
use Rattle.std.proofs.lemmas.Bool.{false≢true}
use Prim.Native.Nat.{ℕ, zero, suc, ◌+◌, ◌-◌, ◌≤◌, ◌<◌}
use Rattle.std.proofs.Math.Decide.{ℕ_discrete}
use native.Mathlib.Omega.{arith}
use borrow.Author.Tests.{eqb-true, eqb-false, eq-eqb, ne_eqb, ltb-true, ltb-false, lt-ltb, le-ltb}
use Rattle.std.proofs.Math.ListN.{length}
use Rattle.plane.specs.Point.{Point, points, corner}
use Rattle.plane.specs.Refusal.{Valid}
use Rattle.plane.specs.Forms.{before, Before, InOrder, edges}
use Rattle.plane.proofs.theory.lists.Sought.{true-not-false, tests_agree}
use Rattle.plane.proofs.theory.forms.Angle.{before-trans}
use Rattle.plane.proofs.theory.sum.Positions.{in-order-at, shape-in-order}
use Rattle.calipers.specs.Places.{Standing, passed as standing_passed}
use Rattle.calipers.specs.Walk.{Walk, passed, finished, advanced}
use Rattle.sums.specs.Advance.{state}
use Rattle.sums.specs.PlaceAfter.{whole_sum, place_after, is_place}
use Rattle.sums.specs.PlaceTest.{follows, ends, stands_at}
use Rattle.calipers.specs.theory.Standing.{passed-taken, passed-ended, passed-waits, standing-swap}
use Rattle.calipers.specs.theory.Standing.{Step, ended, left, right, both, step}
use Rattle.calipers.specs.theory.Places.{finished-all}
use Rattle.sums.specs.theory.Reached.{walk-equal, over-advanced, over-finished, place-stands, more-to-come, place_at, place-count}
use Rattle.calipers.specs.theory.Carry.{all-passed}

-- ---- the last edge passed

module _ (E F : List Point) (i j : ℕ) where
  follows-passed : InOrder E → i ≤ length E → follows E i F j ≡ true → (k : ℕ) → k < i → j < length F → Before (corner E k) (corner F j)
  follows-passed o l h k m n = go (ℕ_discrete k (i - 1))
    where
      next : Before (corner E (i - 1)) (corner F j)
      next = record { before-true = rw (ne_eqb i 0 (λ q. omega arith), ne_eqb j (length F) (λ q. omega arith)) at h }

      go : Dec (k ≡ i - 1) → Before (corner E k) (corner F j)
      go (yes q) = rw q next
      go (no q) = before-trans (in-order-at E o k (i - 1) (omega arith) (omega arith)) next

  passed-follows : j ≤ length F → ((k : ℕ) → k < i → j < length F → Before (corner E k) (corner F j)) → follows E i F j ≡ true
  passed-follows l f = go (eqb i 0) refl (eqb j (length F)) refl
    where
      go : (s : Bool) → eqb i 0 ≡ s → (t : Bool) → eqb j (length F) ≡ t → (s || (t || before (corner E (i - 1)) (corner F j))) ≡ true
      go true p t q = refl
      go false p true q = refl
      go false p false q = (f (i - 1) (omega (arith, eqb-false i 0 p)) (omega (arith, eqb-false j (length F) q))).before-true

-- ---- whether a walk is over

-- two points have no edge, and two places; else the walk is over at the end, and there only
data Ends (remain all : ℕ) : Bool → Type 0 where
  no_edges : {over : Bool} → all ≡ 0 → Ends remain all over
  at-end : remain ≡ 0 → Ends remain all true
  on-the-way : 0 < remain → Ends remain all false

ends-known : (remain all : ℕ) (over : Bool) → ends remain all over ≡ true → Ends remain all over
ends-known remain all over h = go (eqb all 0) refl over h
  where
    go : (s : Bool) → eqb all 0 ≡ s → (o : Bool) → (s || cond o (eqb remain 0) (ltb 0 remain)) ≡ true → Ends remain all o
    go true e o k = no_edges (eqb-true all 0 e)
    go false e true k = at-end (eqb-true remain 0 k)
    go false e false k = on-the-way (ltb-true 0 remain k)

known-ends : {remain all : ℕ} {over : Bool} → Ends remain all over → ends remain all over ≡ true
known-ends {remain} {all} (no_edges q) = rw (eq-eqb all 0 q)
known-ends {remain} {all} (at-end q) = rw (eq-eqb remain 0 q) (or-true (eqb all 0))
known-ends {remain} {all} (on-the-way q) = rw (lt-ltb 0 remain q) (or-true (eqb all 0))

not-less : (m n : ℕ) → not (ltb m n) ≡ true → n ≤ m
not-less m n h = go (ltb m n) refl h
  where
    go : (t : Bool) → ltb m n ≡ t → not t ≡ true → n ≤ m
    go true e k = absurd (false≢true k)
    go false e k = ltb-false m n e

-- ---- the walk comes to every such place

-- a step stays within the positions, if it has not come there
passed-below : {E F : List Point} {i j : ℕ} → Standing E F i j → (k l : ℕ) → k ≤ i → l ≤ j → k + l < i + j → standing_passed E k F l ≤ i
passed-below {E} {F} {i} {j} s k l h m n = go (ℕ_discrete k i) (step E F k l)
  where
    go : Dec (k ≡ i) → Step E F k l → standing_passed E k F l ≤ i
    go (yes q) t = omega (
      arith,
      passed-waits E k F l (omega (arith, s.right-in)) (λ x. rw q (s.right-passed l (omega arith) (omega arith))),
    )
    go (no q) (ended x y) = omega (arith, passed-ended E k F l x)
    go (no q) (left t b) = omega (arith, passed-taken t)
    go (no q) (right t b) = omega (arith, passed-waits E k F l t.there b)
    go (no q) (both t u) = omega (arith, passed-taken t)

-- and passes an edge, if one is left
passed-more : (E F : List Point) (k l : ℕ) → k + l < length E + length F → k ≤ length E → l ≤ length F
    → k + l < standing_passed E k F l + standing_passed F l E k
passed-more E F k l h m n = go (step E F k l)
  where
    go : Step E F k l → k + l < standing_passed E k F l + standing_passed F l E k
    go (ended x y) = omega arith
    go (left t b) = omega (arith, passed-taken t, passed-waits F l E k t.there b)
    go (right t b) = omega (arith, passed-taken t, passed-waits E k F l t.there b)
    go (both t u) = omega (arith, passed-taken t, passed-taken u)

module _ (a b : List ℤ) (v : Valid a) (w : Valid b) where
  abbrev E : List Point
  E = edges (points a)

  abbrev F : List Point
  F = edges (points b)

  pub record Reaches (i j : ℕ) : Type 0 where
    pub count : ℕ
    pub count-in : count ≤ length (whole_sum a b)
    pub left_is : (place_after a b count).i ≡ i
    pub right_is : (place_after a b count).j ≡ j

  module _ {i j : ℕ} (s : Standing E F i j) where
    reach-from : (fuel c : ℕ) → c ≤ length (whole_sum a b) → (place_after a b c).i ≤ i → (place_after a b c).j ≤ j
        → i + j ≤ fuel + ((place_after a b c).i + (place_after a b c).j) → Reaches i j
    unfolding advanced passed
    reach-from zero c h k l m = record { count = c; count-in = h; left_is = omega arith; right_is = omega arith }
    reach-from (suc fuel) c h k l m = go (ltb (u.i + u.j) (i + j)) refl (reach-from fuel (suc c))
      where
        u : Walk
        u = place_after a b c

        not-over : u.i + u.j < i + j → (o : Bool) → u.over ≡ o → o ≡ false
        not-over less true o = let e = over-finished a b c o in absurd (omega (arith, e.0, e.1, s.left_in, s.right-in))
        not-over less false o = refl

        go : (t : Bool) → ltb (u.i + u.j) (i + j) ≡ t
            → (suc c ≤ length (whole_sum a b) → standing_passed E u.i F u.j ≤ i → standing_passed F u.j E u.i ≤ j
            → i + j ≤ fuel + (standing_passed E u.i F u.j + standing_passed F u.j E u.i) → Reaches i j) → Reaches i j
        go true e on =
            let less = ltb-true (u.i + u.j) (i + j) e in
            let more = passed-more E F u.i u.j (omega (arith, s.left_in, s.right-in)) (omega (arith, s.left_in))
            (omega (arith, s.right-in)) in
            on (more-to-come a b v w c h (not-over less u.over refl)) (passed-below s u.i u.j k l less)
            (passed-below (standing-swap s) u.j u.i l k (omega arith)) (omega arith)
        go false e on =
            let same = ltb-false (u.i + u.j) (i + j) e in
            record { count = c; count-in = h; left_is = omega arith; right_is = omega arith }

    reach : Reaches i j
    reach = reach-from (i + j) 0 (omega arith) (omega arith) (omega arith) (omega arith)

  -- ---- whether the walk is over there

  abbrev edges_left : ℕ → ℕ → ℕ
  edges_left i j = length E - i + (length F - j)

  ends-advanced : (i j : ℕ) → i ≤ length E → j ≤ length F → Ends (edges_left i j) (length E + length F) (finished (points a) i (points b) j)
  unfolding finished
  ends-advanced i j h k = go (finished (points a) i (points b) j) refl (ℕ_discrete (edges_left i j) 0)
    where
      go : (o : Bool) → finished (points a) i (points b) j ≡ o → Dec (edges_left i j ≡ 0) → Ends (edges_left i j) (length E + length F) o
      go true e d = let r = finished-all E F i j e in at-end (omega (arith, r.0, r.1))
      go false e (yes q) = true-not-false (all-passed (points a) (points b) i j h k (omega arith)) e
      go false e (no q) = on-the-way (omega arith)

  place-ends : (c : ℕ) → let u = place_after a b c in Ends (edges_left u.i u.j) (length E + length F) u.over
  place-ends zero = go (ℕ_discrete (length E + length F) 0)
    where
      go : Dec (length E + length F ≡ 0) → Ends (edges_left 0 0) (length E + length F) false
      go (yes q) = no_edges q
      go (no q) = on-the-way (omega arith)
  place-ends (suc c) =
      let u = place_after a b (suc c) in
      let s = (place-stands a b v w (suc c)).standing in
      subst (Ends (edges_left u.i u.j) (length E + length F)) (sym (over-advanced a b c))
      (ends-advanced u.i u.j s.left_in s.right-in)

  -- a state is a place if it is the one after some count
  place-known : {i j : ℕ} {over : Bool} (c : ℕ) → c ≤ length (whole_sum a b) → (place_after a b c).i ≡ i → (place_after a b c).j ≡ j
      → (place_after a b c).over ≡ over → is_place a b (state i j over) ≡ true
  place-known c h p q r = subst (λ (u : Walk). is_place a b u ≡ true) (walk-equal p q r) (place_at a b v w c h)

  -- past the last edge; the walk of two points takes one step, and passes none
  over-place : {i j : ℕ} → i ≡ length E → j ≡ length F → Reaches i j → is_place a b (state i j true) ≡ true
  over-place {i} {j} h k r = go r.count r.count-in r.left_is r.right_is
    where
      after : (c : ℕ) → suc c ≤ length (whole_sum a b) → (place_after a b (suc c)).i ≡ i → (place_after a b (suc c)).j ≡ j
          → is_place a b (state i j true) ≡ true
      after c l p q = let s = (place-stands a b v w (suc c)).standing in
          place-known (suc c) l p q
          (over-advanced a b c ∙ all-passed (points a) (points b) _ _ s.left_in s.right-in (omega (arith, p, q)))

      go : (c : ℕ) → c ≤ length (whole_sum a b) → (place_after a b c).i ≡ i → (place_after a b c).j ≡ j → is_place a b (state i j true) ≡
          true
      go zero l p q = let s = (place-stands a b v w 1).standing in
          after 0 (more-to-come a b v w 0 l refl) (omega (arith, p, s.left_in)) (omega (arith, q, s.right-in))
      go (suc c) l p q = after c l p q

  ends-place : {i j : ℕ} {over : Bool} → Standing E F i j → Ends (edges_left i j) (length E + length F) over
      → is_place a b (state i j over) ≡ true
  ends-place {over = true} s (no_edges q) = over-place (omega (arith, s.left_in)) (omega (arith, s.right-in)) (reach s)
  ends-place {over = false} s (no_edges q) = place-known 0 (omega arith) (omega (arith, s.left_in)) (omega (arith, s.right-in)) refl
  ends-place s (at-end q) = over-place (omega (arith, s.left_in)) (omega (arith, s.right-in)) (reach s)
  ends-place {i} {j} s (on-the-way q) = let r = reach s in
      place-known r.count r.count-in r.left_is r.right_is (go r (place_after a b r.count).over refl)
    where
      go : (r : Reaches i j) (o : Bool) → (place_after a b r.count).over ≡ o → o ≡ false
      go r true e = let f = over-finished a b r.count e in absurd (omega (arith, f.0, f.1, r.left_is, r.right_is))
      go r false e = refl

  -- ---- the test

  test-place : (u : Walk) → stands_at a b u ≡ true → is_place a b u ≡ true
  unfolding stands_at
  test-place u h =
      let in-first = (and-eq-true_iff (not (ltb (length E) u.i)) _).0 h in
      let in-second = (and-eq-true_iff (not (ltb (length F) u.j)) _).0 in-first.1 in
      let ending = (and-eq-true_iff (ends (edges_left u.i u.j) (length E + length F) u.over) _).0 in-second.1 in
      let after = (and-eq-true_iff (follows E u.i F u.j) _).0 ending.1 in
      let i-in = not-less (length E) u.i in-first.0 in
      let j-in = not-less (length F) u.j in-second.0 in
      ends-place (record {
        left_in = i-in;
        right-in = j-in;
        left_passed = follows-passed E F u.i u.j (shape-in-order (points a) v.shape) i-in after.0;
        right-passed = follows-passed F E u.j u.i (shape-in-order (points b) w.shape) j-in after.1;
      }) (ends-known _ _ u.over ending.0)

  place-passes : (c : ℕ) → stands_at a b (place_after a b c) ≡ true
  unfolding stands_at
  place-passes c =
      let u = place_after a b c in
      let s = (place-stands a b v w c).standing in
      rw (
        le-ltb (length E) u.i s.left_in,
        le-ltb (length F) u.j s.right-in,
        known-ends (place-ends c),
        passed-follows E F u.i u.j s.right-in s.left_passed,
        passed-follows F E u.j u.i s.left_in s.right-passed,
      )

  pub place-test : (u : Walk) → is_place a b u ≡ stands_at a b u
  place-test u = tests_agree (is_place a b u) (stands_at a b u)
      (λ h. let r = place-count a b u h in rw r.2 (place-passes r.0)) (test-place u)
