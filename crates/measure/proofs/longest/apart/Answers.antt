-- `apart` meets its contract.
use mathlib.Core.Path.{◌≡◌, sym, ◌∙◌, ap}
use Prim.Native.Nat.{ℕ}
use borrow.Author.Tests.{eq-eqb, ne_eqb}
use lib.IntN.{nat_abs}
use mir.Syntax.{w64}
use mir.Val.{to_z, of_z}
use Rattle.integer.specs.Machine.{result-is}
use Rattle.plane.specs.Measure.{squared}
use Rattle.plane.proofs.theory.forms.Squared.{squared-nonneg}
use Rattle.calipers.specs.Side.{corner_of}
use Rattle.measure.specs.Scan.{apart_at}
use Rattle.measure.proofs.longest.apart.Goals as goal
use Rattle.measure.proofs.longest.apart.Goals.{After-magnitude-squared, After-squared}

squared-is : (c : After-squared) → let args = c.args in
    to_z w64 (of_z w64 c.squared.result) ≡ squared (corner_of args.s) (corner_of args.t)
squared-is c = result-is w64 c.squared.type_inv c.squared.ensures

pub magnitude-squared-requires : goal.magnitude-squared-requires
magnitude-squared-requires c = rw (squared-is c) (squared-nonneg _ _)

size : (c : After-magnitude-squared) → let args = c.args in
    c.magnitude-squared.result ≡ nat_abs (squared (corner_of args.s) (corner_of args.t))
size c = ap nat_abs (sym c.magnitude-squared.ensures ∙ squared-is c.before)

pub returns-then-t-n : goal.returns-then-t-n
unfolding apart_at
returns-then-t-n c = let args = c.args in
    rw (eq-eqb args.t.at args.n c.if-t-n.true)
    (ap (λ (d : ℕ). record { squared = d; from = 0; to = args.s.at }) (size c.before.before))

pub returns : goal.returns
unfolding apart_at
returns c = let args = c.args in
    rw (ne_eqb args.t.at args.n c.if-t-n.false)
    (ap (λ (d : ℕ). record { squared = d; from = args.s.at; to = args.t.at }) (size c.before.before))
