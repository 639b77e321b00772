-- `measured` meets its contract: the turn and the squared length are not negative.
use mathlib.Core.Path.{◌≡◌, sym, ◌∙◌, ap, ap₂}
use Prim.Native.Nat.{ℕ}
use lib.IntN.{nat_abs}
use mir.Syntax.{w64}
use mir.Val.{to_z, of_z}
use Rattle.integer.specs.Machine.{result-is}
use Rattle.plane.specs.Point.{◌⊖◌}
use Rattle.plane.specs.Turn.{cross}
use Rattle.plane.specs.Direction.{value}
use Rattle.plane.proofs.theory.forms.Vector.{value-nonneg}
use Rattle.calipers.specs.Side.{corner_of, next_of}
use Rattle.measure.specs.Scan.{measured_at}
use Rattle.measure.proofs.narrowest.measured.Goals as goal
use Rattle.measure.proofs.narrowest.measured.Goals.{After-span, After-turn}

-- ---- the turn and the squared length, each where it is known
turn_is : (c : After-turn) → let args = c.args in
    to_z w64 (of_z w64 c.turn.result) ≡ cross (next_of args.s) (corner_of args.t ⊖ corner_of args.s)
turn_is c = result-is w64 c.turn.type_inv c.turn.ensures

squared-is : (c : After-span) → let args = c.args in
    to_z w64 (of_z w64 c.span.result) ≡ value (next_of args.s) (next_of args.s)
squared-is c = result-is w64 c.span.type_inv c.span.ensures

-- ---- the needs
pub turn-requires : goal.turn-requires
turn-requires c = let pre = c.requires in (pre.corner-fits, pre.other_fits, pre.edge-fits)

pub magnitude-turn-requires : goal.magnitude-turn-requires
magnitude-turn-requires c = rw (turn_is c) c.requires.not_right

pub span-requires : goal.span-requires
span-requires c = c.requires.edge-fits

pub magnitude-squared-requires : goal.magnitude-squared-requires
magnitude-squared-requires c = rw (squared-is c) (value-nonneg _)

pub returns : goal.returns
unfolding measured_at
returns c =
    let args = c.args in
    ap₂ (λ (t q : ℕ). record { edge = args.s.at; corner = args.t.at; turn = t; squared = q })
    (ap nat_abs (sym c.magnitude-turn.ensures ∙ turn_is c.before.before.before))
    (ap nat_abs (sym c.magnitude-squared.ensures ∙ squared-is c.before))
