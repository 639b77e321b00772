-- When a line from corner p of one list to a point q must begin elsewhere. The search for a tangent asks nothing else; the same test, with
-- the line turned round and the other side, tells whether it must end elsewhere. Our own, not of document 02.
--     draws s p q x    x draws the line's start away from p: x is not on side s, or it is on the line and ahead of p
--     Facing ps q      in some direction q is beyond all corners of ps
--     Rests s ps i q   no corner of ps draws the line's start away from corner i
--     Beside forward n i k     of n corners corner k is after corner i, or before it
--     Undrawn s forward ps q i       nor does the corner beside corner i on that way round
--     Came s forward ps q from i     i is where a walk began, or a corner that draws away from the one before it on that way round
--     Slid s forward ps q from i     both: where a walk comes to an end
--     Better s ps i q r     r is a corner that draws away from i, or none, and then i rests
--     Ready l i q      corner i of a valid list, and a point that it faces, small enough for the code
use Rattle.std.specs.Prelude.{◌≡◌, Bool, true, false, not, ◌&&◌, ◌||◌, Option, Some, None, List, ℕ, ◌^◌, ◌<◌, ℤ, pos, length, ◌<ℤ◌}
use Rattle.std.specs.Int.Signed.{lt_z}
use Rattle.plane.specs.Point.{Point, points, corner, ◌⊖◌}
use Rattle.plane.specs.Refusal.{Valid}
use Rattle.plane.specs.Shape.{next}
use Rattle.plane.specs.Direction.{value}
use Rattle.plane.specs.Tangent.{on_side}
use Rattle.polygon.specs.Point.{Small}

unfoldable pub draws : Bool → Point → Point → Point → Bool
draws s p q x = not (on_side s p q x) || (on_side (not s) p q x && lt_z (pos 0) (value (q ⊖ p) (x ⊖ p)))

pub record Facing (ps : List Point) (q : Point) : Type 0 where
  pub direction : Point
  pub below : (k : ℕ) → k < length ps → value direction (corner ps k) <ℤ value direction q

pub record Rests (s : Bool) (ps : List Point) (i : ℕ) (q : Point) : Type 0 where
  pub within : i < length ps
  pub undrawn : (k : ℕ) → k < length ps → draws s (corner ps i) q (corner ps k) ≡ false

abbrev pub Beside : Bool → ℕ → ℕ → ℕ → Type 0
Beside true n i k = k ≡ next n i
Beside false n i k = next n k ≡ i

pub record Undrawn (s forward : Bool) (ps : List Point) (q : Point) (i : ℕ) : Type 0 where
  pub other : ℕ
  pub other-in : other < length ps
  pub beside : Beside forward (length ps) i other
  pub undrawn : draws s (corner ps i) q (corner ps other) ≡ false

pub data Came (s forward : Bool) (ps : List Point) (q : Point) (from i : ℕ) : Type 0 where
  stayed : i ≡ from → Came s forward ps q from i
  moved : (k : ℕ) → k < length ps → Beside forward (length ps) k i → draws s (corner ps k) q (corner ps i) ≡ true
      → Came s forward ps q from i

pub record Slid (s forward : Bool) (ps : List Point) (q : Point) (from i : ℕ) : Type 0 where
  pub within : i < length ps
  pub ends : Undrawn s forward ps q i
  pub came : Came s forward ps q from i

abbrev pub Better : Bool → List Point → ℕ → Point → Option ℕ → Type 0
Better s ps i q (Some k) = (k < length ps) × (draws s (corner ps i) q (corner ps k) ≡ true)
Better s ps i q None = Rests s ps i q

pub record Ready (l : List ℤ) (i : ℕ) (q : Point) : Type 0 where
  pub valid : Valid l
  pub within : i < length (points l)
  pub small : Small (2 ^ 21) q
  pub facing : Facing (points l) q
