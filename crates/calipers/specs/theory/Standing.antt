-- Where the caliper walk is among two lists of edges in order, E and F, of which i and j are passed.
--     takes E i F j       whether the next step passes edge i of E: there is one, and edge j of F is not before it
--     passed E i F j      how many edges of E are passed after the step
--     Taken E i F j       the test as a fact; `takes-taken`, `taken-takes`; `taken-same`: passed together, they point the same way
--     Step E F i j, step  the ways a step goes
--     passed-taken, passed-left     the step passes edge i of E, or not; `passed-ended`, `passed-waits`: why not
--     edges-less          where an edge is left, fewer are after the step
--     Standing E F i j    each edge passed of the one list is before the next of the other
--     standing-start, standing-advance, standing-swap      it holds at the beginning and after each step; with the lists exchanged
--     taken-before, taken-after     when edge i is passed, the edges of F before it are those passed: the cut is at j
use Rattle.std.specs.Prelude.{◌≡◌, refl, Bool, true, false, not, cond, ◌&&◌, List, ℕ, ◌+◌, ◌-◌, ◌≤◌, ◌<◌, ltb, length}
use Rattle.std.proofs.Common.{◌∙◌, arith, below_more, ltb-true, ltb-false, lt-ltb}
use Rattle.std.proofs.lemmas.Bool.{false≢true}
use Rattle.plane.specs.Direction.{SameWay}
use Rattle.plane.specs.Point.{Point, corner}
use Rattle.plane.specs.Forms.{before, Before, InOrder}
use Rattle.plane.proofs.theory.lists.Sought.{true-not-false}
use Rattle.plane.proofs.theory.forms.Angle.{before-trans, before-reversed}
use Rattle.plane.proofs.theory.forms.SameWay.{same_left, neither-same}
use Rattle.plane.proofs.theory.sum.Positions.{in-order-at, in-order-non-zero}
use Rattle.calipers.specs.Places.{takes, passed, Standing}

-- ---- what the next step passes

-- edge i of E is passed next
pub record Taken (E : List Point) (i : ℕ) (F : List Point) (j : ℕ) : Type 0 where
  pub there : i < length E
  pub free : j < length F → before (corner F j) (corner E i) ≡ false

pub takes-taken : (E : List Point) (i : ℕ) (F : List Point) (j : ℕ) → takes E i F j ≡ true → Taken E i F j
takes-taken E i F j = go (ltb i (length E)) refl (ltb j (length F)) refl (before (corner F j) (corner E i)) refl
  where
    go : (a : Bool) → ltb i (length E) ≡ a → (b : Bool) → ltb j (length F) ≡ b → (c : Bool) → before (corner F j) (corner E i) ≡ c
        → (a && not (b && c)) ≡ true → Taken E i F j
    go false p b q c r h = absurd (false≢true h)
    go true p false q c r h =
        record { there = ltb-true i (length E) p; free = λ l. absurd (omega (arith, ltb-false j (length F) q)) }
    go true p true q false r h = record { there = ltb-true i (length E) p; free = λ l. r }
    go true p true q true r h = absurd (false≢true h)

pub taken-takes : {E : List Point} {i : ℕ} {F : List Point} {j : ℕ} → Taken E i F j → takes E i F j ≡ true
taken-takes {E} {i} {F} {j} t = rw (lt-ltb i (length E) t.there) (go (ltb j (length F)) refl)
  where
    go : (b : Bool) → ltb j (length F) ≡ b → not (b && before (corner F j) (corner E i)) ≡ true
    go true p = rw (t.free (ltb-true j (length F) p))
    go false p = refl

pub passed-taken : {E : List Point} {i : ℕ} {F : List Point} {j : ℕ} → Taken E i F j → passed E i F j ≡ i + 1
passed-taken {E} {i} {F} {j} t = rw (taken-takes t)

pub passed-left : (E : List Point) (i : ℕ) (F : List Point) (j : ℕ) → (Taken E i F j → ⊥) → passed E i F j ≡ i
passed-left E i F j no_step = go (takes E i F j) refl
  where
    go : (b : Bool) → takes E i F j ≡ b → cond b (i + 1) i ≡ i
    go true p = absurd (no_step (takes-taken E i F j p))
    go false p = refl

-- both edges are passed in one step
pub taken-same : {E F : List Point} {i j : ℕ} → InOrder E → InOrder F → Taken E i F j → Taken F j E i
    → SameWay (corner E i) (corner F j)
taken-same {E} {F} {i} {j} o_e o_f t u = neither-same (corner E i) (corner F j) (u.free t.there) (t.free u.there)
    (in-order-non-zero E o_e i t.there) (in-order-non-zero F o_f j u.there)

-- ---- the invariant

pub standing-start : (E F : List Point) → Standing E F 0 0
standing-start E F = record {
  left_in = omega arith;
  right-in = omega arith;
  left_passed = λ k h l. absurd (omega arith);
  right-passed = λ k h l. absurd (omega arith);
}

pub standing-swap : {E F : List Point} {i j : ℕ} → Standing E F i j → Standing F E j i
standing-swap s =
    record { left_in = s.right-in; right-in = s.left_in; left_passed = s.right-passed; right-passed = s.left_passed }

-- ---- one step

-- no edge is left; an edge of E, or of F, is passed alone; both are
pub data Step (E F : List Point) (i j : ℕ) : Type 0 where
  ended : length E ≤ i → length F ≤ j → Step E F i j
  left : Taken E i F j → (j < length F → Before (corner E i) (corner F j)) → Step E F i j
  right : Taken F j E i → (i < length E → Before (corner F j) (corner E i)) → Step E F i j
  both : Taken E i F j → Taken F j E i → Step E F i j

pub step : (E F : List Point) (i j : ℕ) → Step E F i j
step E F i j =
    go (ltb i (length E)) refl (ltb j (length F)) refl (before (corner E i) (corner F j)) refl (before (corner F j) (corner E i)) refl
  where
    go : (a : Bool) → ltb i (length E) ≡ a → (b : Bool) → ltb j (length F) ≡ b → (c : Bool) → before (corner E i) (corner F j) ≡ c
        → (d : Bool) → before (corner F j) (corner E i) ≡ d → Step E F i j
    go false p false q c r d t = ended (ltb-false i (length E) p) (ltb-false j (length F) q)
    go false p true q c r d t = let none = ltb-false i (length E) p in
        right (record { there = ltb-true j (length F) q; free = λ h. absurd (omega arith) }) (λ h. absurd (omega arith))
    go true p false q c r d t = let none = ltb-false j (length F) q in
        left (record { there = ltb-true i (length E) p; free = λ h. absurd (omega arith) }) (λ h. absurd (omega arith))
    go true p true q true r d t = let b : Before (corner E i) (corner F j) = record { before-true = r } in
        left (record { there = ltb-true i (length E) p; free = λ h. before-reversed b }) (λ h. b)
    go true p true q false r true t = let b : Before (corner F j) (corner E i) = record { before-true = t } in
        right (record { there = ltb-true j (length F) q; free = λ h. r }) (λ h. b)
    go true p true q false r false t =
        both (record { there = ltb-true i (length E) p; free = λ h. t }) (record { there = ltb-true j (length F) q; free = λ h. r })

-- an edge stays where it is not there, or waits for the other
pub passed-ended : (E : List Point) (i : ℕ) (F : List Point) (j : ℕ) → length E ≤ i → passed E i F j ≡ i
passed-ended E i F j h = passed-left E i F j (λ t. omega (arith, t.there))

pub passed-waits : (E : List Point) (i : ℕ) (F : List Point) (j : ℕ) → j < length F → (i < length E → Before (corner F j) (corner E i))
    → passed E i F j ≡ i
passed-waits E i F j h b = passed-left E i F j (λ t. true-not-false (b t.there).before-true (t.free h))

-- ---- the invariant is kept

module _ {E F : List Point} {i j : ℕ} (o_e : InOrder E) (s : Standing E F i j) (h : i < length E) where
  standing-left : (j < length F → Before (corner E i) (corner F j)) → Standing E F (i + 1) j
  standing-left b = record {
    left_in = omega arith;
    right-in = s.right-in;
    left_passed = λ k l m. below_more (λ n. Before (corner E n) (corner F j)) i (λ n p. s.left_passed n p m) (b m) k l;
    right-passed = λ k l m. before-trans (s.right-passed k l h) (in-order-at E o_e i (i + 1) (omega arith) m);
  }

  -- after a common step the edges passed of E are before the next of F
  both-passed : InOrder F → j < length F → SameWay (corner E i) (corner F j)
      → (k : ℕ) → k < i + 1 → j + 1 < length F → Before (corner E k) (corner F (j + 1))
  both-passed o_f l w k m n =
      let next = in-order-at F o_f j (j + 1) (omega arith) n in
      below_more (λ p. Before (corner E p) (corner F (j + 1))) i (λ p q. before-trans (s.left_passed p q l) next)
      (record { before-true = same_left w (corner F (j + 1)) ∙ next.before-true }) k m

pub standing-advance : {E F : List Point} {i j : ℕ} → InOrder E → InOrder F → Standing E F i j
    → Standing E F (passed E i F j) (passed F j E i)
standing-advance {E} {F} {i} {j} o_e o_f s = go (step E F i j)
  where
    go : Step E F i j → Standing E F (passed E i F j) (passed F j E i)
    go (ended h k) = rw (passed-ended E i F j h, passed-ended F j E i k) s
    go (left t b) = rw (passed-taken t, passed-waits F j E i t.there b) (standing-left o_e s t.there b)
    go (right t b) =
        rw (passed-taken t, passed-waits E i F j t.there b) (standing-swap (standing-left o_f (standing-swap s) t.there b))
    go (both t u) = rw (passed-taken t, passed-taken u) (record {
      left_in = omega (arith, t.there);
      right-in = omega (arith, u.there);
      left_passed = both-passed o_e s t.there o_f u.there (taken-same o_e o_f t u);
      right-passed = both-passed o_f (standing-swap s) u.there o_e t.there (taken-same o_f o_e u t);
    })

pub edges-less : (E F : List Point) (i j : ℕ) {m n : ℕ} → m ≡ passed E i F j → n ≡ passed F j E i → (length E ≤ i → length F ≤ j → ⊥)
    → length E - m + (length F - n) < length E - i + (length F - j)
edges-less E F i j {m} {n} p q more = go (step E F i j)
  where
    go : Step E F i j → length E - m + (length F - n) < length E - i + (length F - j)
    go (ended h k) = absurd (more h k)
    go (left t b) = omega (arith, p ∙ passed-taken t, q ∙ passed-waits F j E i t.there b, t.there)
    go (right t b) = omega (arith, p ∙ passed-waits E i F j t.there b, q ∙ passed-taken t, t.there)
    go (both t u) = omega (arith, p ∙ passed-taken t, q ∙ passed-taken u, t.there, u.there)

-- ---- the cut at a place

module _ {E F : List Point} {i j : ℕ} (o_f : InOrder F) (s : Standing E F i j) (t : Taken E i F j) where
  pub taken-before : (k : ℕ) → k < j → before (corner F k) (corner E i) ≡ true
  taken-before k h = (s.right-passed k h t.there).before-true

  pub taken-after : (k : ℕ) → j ≤ k → k < length F → before (corner F k) (corner E i) ≡ false
  taken-after k h l = go (before (corner F k) (corner E i)) refl (ltb j k) refl
    where
      go : (b : Bool) → before (corner F k) (corner E i) ≡ b → (c : Bool) → ltb j k ≡ c → b ≡ false
      go false p c q = refl
      go true p true q = true-not-false (before-trans (in-order-at F o_f j k (ltb-true j k q) l) (record { before-true = p })).before-true
          (t.free (omega arith))
      go true p false q = let e : k ≡ j = omega (arith, ltb-false j k q) in true-not-false (rw e at p) (t.free (omega arith))
