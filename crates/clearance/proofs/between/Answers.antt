-- `between` meets its contract: what the pass saw tells whether the shapes are apart, and where it stopped the search goes on.
use mathlib.Core.Path.{◌≡◌, sym, ◌∙◌, ap}
use mathlib.Core.Bool.{true}
use mathlib.Core.Logic.{inl, inr}
use native.Mathlib.Omega.{arith}
use Rattle.plane.specs.Point.{points}
use Rattle.plane.specs.Separation.{apart}
use Rattle.separation.specs.Answer.{number_of}
use Rattle.separation.specs.theory.Around.{related-apart, related-not-apart}
use Rattle.clearance.proofs.between.Goals as goal
use Rattle.clearance.proofs.between.Goals.{In-Apart}

pub top-top-requires : goal.top-top-requires
top-top-requires c = c.requires.1.shape.some

pub pass-sides-requires : goal.pass-sides-requires
pass-sides-requires c = let pre = c.requires in (pre.0, pre.1, c.top-top.ensures)

pub related-requires : goal.related-requires
related-requires c = let pre = c.requires in (pre.0, pre.1, c.top-top.ensures, c.pass-sides.ensures.passed)

-- where the relation is told
clear : (c : In-Apart) → let args = c.args in
    apart (points args.a.now) (points args.b.now) ≡ true
clear c = related-apart _ _ (ap number_of (sym c.in-Apart.is) ∙ c.related.ensures)

pub found-requires : goal.found-requires
found-requires c =
    let pre = c.requires in (pre.0, pre.1, clear c, c.top-top.ensures, c.pass-sides.ensures.stood)

pub returns-in-Apart : goal.returns-in-Apart
returns-in-Apart c = (clear (goal.at.returns-in-Apart c).In-Apart, c.found.ensures)

pub returns-in-Touching : goal.returns-in-Touching
returns-in-Touching c = elim c.in-Touching.is [
  | inl e ↦ related-not-apart _ _ {n = 1} (omega arith) (ap number_of (sym e) ∙ c.related.ensures)
  | inr e ↦ related-not-apart _ _ {n = 2} (omega arith) (ap number_of (sym e) ∙ c.related.ensures)
]
