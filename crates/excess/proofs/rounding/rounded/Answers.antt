-- `rounded` meets its contract, a case for each kind; the third does not come.
use mathlib.Core.Path.{sym, ◌∙◌, ap, subst}
use mathlib.Core.List.{[], ◌∷◌}
use Prim.Native.Nat.{ℕ}
use lib.IntN.{pos}
use Rattle.clearance.specs.declared.measured.Distance.{Distance}
use Rattle.excess.specs.Answer.{RoundedDown, up_numbers}
use Rattle.excess.proofs.rounding.rounded.Goals as goal

pub above-requires : goal.above-requires
above-requires c = subst RoundedDown c.in-Corners.is c.requires

pub above-requires-in-OnSecond : goal.above-requires-in-OnSecond
above-requires-in-OnSecond c = subst RoundedDown c.in-OnSecond.is c.requires

pub returns-in-Corners : goal.returns-in-Corners
returns-in-Corners c =
    let corner = c.args.corner in
    ap (λ (u : ℕ). pos 1 ∷ pos corner ∷ pos c.in-Corners.second ∷ pos c.in-Corners.squared ∷ pos u ∷ []) c.above.ensures
    ∙ ap (λ (d : Distance). up_numbers corner d) (sym c.in-Corners.is)

pub returns-in-OnSecond : goal.returns-in-OnSecond
returns-in-OnSecond c =
    let corner = c.args.corner in
    ap (λ (u : ℕ). pos 2 ∷ pos corner ∷ pos c.in-OnSecond.edge ∷ pos c.in-OnSecond.turn ∷ pos c.in-OnSecond.squared ∷ pos u ∷ [])
    c.above-in-OnSecond.ensures ∙ ap (λ (d : Distance). up_numbers corner d) (sym c.in-OnSecond.is)

pub returns-in-OnFirst : goal.returns-in-OnFirst
returns-in-OnFirst c = absurd (subst RoundedDown c.in-OnFirst.is c.requires)
