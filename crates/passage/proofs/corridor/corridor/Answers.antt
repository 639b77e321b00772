-- `corridor` meets its contract: where the shapes are apart the widest is found, and else there is none.
use mathlib.Core.Path.{◌≡◌, sym, ◌∙◌, ap}
use mathlib.Core.List.{List, [], ◌∷◌}
use mathlib.Core.Bool.{Bool, true, cond}
use mathlib.Core.Logic.{inl, inr}
use native.Mathlib.Omega.{arith}
use lib.IntN.{pos}
use Rattle.plane.specs.Point.{Point, points}
use Rattle.plane.specs.Separation.{apart}
use Rattle.separation.specs.Answer.{number_of}
use Rattle.separation.specs.theory.Around.{related-apart, related-not-apart}
use Rattle.passage.specs.Corridor.{widest_numbers, corridor_numbers}
use Rattle.passage.proofs.corridor.corridor.Goals as goal
use Rattle.passage.proofs.corridor.corridor.Goals.{In-Apart}

-- where they are apart, and where they are not
apart-numbers : (A B : List Point) {t : Bool} → apart A B ≡ t → cond t (widest_numbers A B) (pos 0 ∷ []) ≡ corridor_numbers A B
apart-numbers A B e = ap (λ (t : Bool). cond t (widest_numbers A B) (pos 0 ∷ [])) (sym e)

ready : (c : In-Apart) → let args = c.args in
    apart (points args.a.now) (points args.b.now) ≡ true
ready c = related-apart _ _ (ap number_of (sym c.in-Apart.is) ∙ c.relation.ensures)

pub widest-requires : goal.widest-requires
widest-requires c = let pre = c.requires in (pre.0, pre.1, ready c)

pub returns-in-Apart : goal.returns-in-Apart
returns-in-Apart c = c.widest.ensures ∙ apart-numbers _ _ (ready (goal.at.returns-in-Apart c).In-Apart)

pub returns-in-Touching : goal.returns-in-Touching
returns-in-Touching c = elim c.in-Touching.is [
  | inl e ↦ apart-numbers _ _ (related-not-apart _ _ {n = 1} (omega arith) (ap number_of (sym e) ∙ c.relation.ensures))
  | inr e ↦ apart-numbers _ _ (related-not-apart _ _ {n = 2} (omega arith) (ap number_of (sym e) ∙ c.relation.ensures))
]
