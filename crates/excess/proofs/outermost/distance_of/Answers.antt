-- `distance_of` meets its contract: the corner is a shape by itself.
use mathlib.Core.Path.{◌≡◌, ap, subst}
use mathlib.Core.List.{[], ◌∷◌}
use Rattle.plane.specs.Point.{points}
use Rattle.polygon.specs.Point.{at}
use Rattle.std.specs.Prelude.{Option}
use Rattle.clearance.specs.declared.measured.Distance.{Distance}
use Rattle.clearance.specs.declared.measured.Ratio.{Ratio}
use Rattle.clearance.specs.Answer.{Spaced}
use Rattle.excess.proofs.theory.Found.{corner-valid, found-far, none-far}
use Rattle.excess.proofs.outermost.distance_of.Goals as goal
use Rattle.excess.proofs.outermost.distance_of.Goals.{After-spacing}

pub spacing-requires : goal.spacing-requires
spacing-requires c =
    let pre = c.requires in (corner-valid _ pre.0 _ pre.2 c.corner_at.ensures, pre.1)

-- what is known of the corner's spacing, where it is told
known : (c : After-spacing) {s : Option Distance} → c.spacing.result ≡ s → Spaced (at c.corner_at.result ∷ []) (points c.args.old.now) s
known c e = subst (Spaced (at c.corner_at.result ∷ []) (points c.args.old.now)) e c.spacing.ensures

pub returns-in-None : goal.returns-in-None
returns-in-None c =
    none-far _ _ c.requires.1.shape _ c.corner_at.ensures (known (goal.at.returns-in-None c).After-spacing c.in-None.is)

pub returns-in-Some : goal.returns-in-Some
returns-in-Some c =
    let apart = known (goal.at.returns-in-Some c).After-spacing c.in-Some.is in
    found-far _ _ c.requires.1.shape _ c.corner_at.ensures apart.0 c.in-Some.found apart.1
    (ap (λ (r : Ratio). record { corner = c.args.i; ratio = r }) c.ratio.ensures)
