-- `longer` meets its contract: the pair comes after the best, so that a tie stays.
use mathlib.Core.Path.{◌≡◌, sym, subst, ◌∙◌, ap}
use Prim.Native.Nat.{ℕ}
use native.Mathlib.Nat.{le_refl}
use native.Mathlib.Omega.{arith}
use lib.IntN.{nat_abs}
use mir.Syntax.{w64}
use mir.Val.{to_z, of_z}
use Rattle.integer.specs.Machine.{result-is}
use Rattle.plane.specs.Measure.{squared}
use Rattle.plane.proofs.theory.forms.Squared.{squared-nonneg}
use Rattle.calipers.specs.Side.{corner_of}
use Rattle.measure.specs.declared.Length.{Length}
use Rattle.measure.specs.Scan.{pair_at, Behind, Kept, replaced}
use Rattle.measure.proofs.Pairs.{pair-kept}
use Rattle.measure.proofs.longest.longer.Goals as goal
use Rattle.measure.proofs.longest.longer.Goals.{After-magnitude-squared, After-squared}

squared-is : (c : After-squared) → let args = c.args in
    to_z w64 (of_z w64 c.squared.result) ≡ squared (corner_of args.s) (corner_of args.t)
squared-is c = result-is w64 c.squared.type_inv c.squared.ensures

pub squared-requires : goal.squared-requires
squared-requires c = (c.requires.0, c.requires.1)

pub magnitude-squared-requires : goal.magnitude-squared-requires
magnitude-squared-requires c = rw (squared-is c) (squared-nonneg _ _)

-- the pair with the distance that is found
pair_is : (c : After-magnitude-squared) → let args = c.args in
    record { squared = c.magnitude-squared.result; from = args.s.at; to = args.t.at } ≡ pair_at args.s args.t
unfolding pair_at
pair_is c = let args = c.args in
    ap (λ (d : ℕ). record { squared = d; from = args.s.at; to = args.t.at })
    (ap nat_abs (sym c.magnitude-squared.ensures ∙ squared-is c.before))

pub returns-then-squared-best : goal.returns-then-squared-best
returns-then-squared-best c =
    let best = c.args.best in (
      subst (λ (p : Length). Kept best p best) (pair_is c.before.before)
          (pair-kept c.requires.2 c.requires.3 c.if-squared-best.true),
      c.requires.2,
      c.requires.3,
    )

pub returns : goal.returns
returns c =
    let best = c.args.best in (
      replaced (pair_is c.before.before) (subst (λ (p : Length). Behind best p) (pair_is c.before.before)
          (record {
            no-further = omega (arith, c.if-squared-best.false);
            no-earlier = λ g. absurd
                (omega (arith, c.if-squared-best.false));
          })),
      le_refl _,
      le_refl _,
    )
