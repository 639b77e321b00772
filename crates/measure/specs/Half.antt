-- The half walk of a shape: up its right-hand chain, from corner 0 to the top, and down its left-hand chain, from the top back to corner 0,
-- both at once. At place (i, m) the edges before i of the right-hand chain and before m of the left-hand one are passed. Our own, not of
-- document 01.
--     Chains A t             t is the top: the edges before it point up, and those from it on do not
--     Antipodal A t i m      corners i and m are antipodal: with the edges of the left-hand chain turned round, each passed edge of the
--                            right-hand chain comes before the next of the other, and no passed edge of the other after its next
--     goes_right t n i m c    whether the next step passes edge i, and not edge m, for top t, n edges, and the product c of the two
--     HalfStep A t i m k l   the step from place (i, m) leads to (k, l). Of two parallel edges that of the left-hand chain is passed first
-- What it means: `HalfWalk` of the theory.
use Rattle.std.specs.Prelude.{◌≡◌, Bool, true, false, cond, List, ℕ, ◌+◌, ◌≤◌, ◌<◌, eqb, ℤ, pos, length, ◌≤ℤ◌, ◌<ℤ◌}
use Rattle.std.specs.Int.Signed.{lt_z}
use Rattle.plane.specs.Point.{Point, corner}
use Rattle.plane.specs.Turn.{cross}
use Rattle.plane.specs.Forms.{up, edges}

pub record Chains (A : List Point) (t : ℕ) : Type 0 where
  pub within : t < length A
  pub rises : (k : ℕ) → k < t → up (corner (edges A) k) ≡ true
  pub falls : (k : ℕ) → t ≤ k → k < length (edges A) → up (corner (edges A) k) ≡ false

pub record Antipodal (A : List Point) (t i m : ℕ) : Type 0 where
  pub right-in : i ≤ t
  pub left-from : t ≤ m
  pub left_in : m ≤ length (edges A)
  pub right-passed : (k : ℕ) → k < i → m < length (edges A) → pos 0 <ℤ cross (corner (edges A) m) (corner (edges A) k)
  pub left_passed : (k : ℕ) → t ≤ k → k < m → i < t → pos 0 ≤ℤ cross (corner (edges A) i) (corner (edges A) k)

-- a chain that is passed waits for the other
abbrev pub goes_right : ℕ → ℕ → ℕ → ℕ → ℤ → Bool
goes_right t n i m c = cond (eqb i t) false (cond (eqb m n) true (lt_z c (pos 0)))

pub data HalfStep (A : List Point) (t i m : ℕ) : ℕ → ℕ → Type 0 where
  right : i < t → (m < length (edges A) → cross (corner (edges A) i) (corner (edges A) m) <ℤ pos 0) → HalfStep A t i m (i + 1) m
  left : m < length (edges A) → (i < t → pos 0 ≤ℤ cross (corner (edges A) i) (corner (edges A) m)) → HalfStep A t i m i (m + 1)
