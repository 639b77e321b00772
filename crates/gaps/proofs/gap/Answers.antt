-- `gap` meets its contract: the search keeps the narrowest pair, and the heads of its records name it.
use Rattle.plane.specs.Point.{points}
use Rattle.std.proofs.Common.{ap, ◌∙◌}
use Rattle.gaps.specs.Search.{Found, numbers_of}
use Rattle.gaps.proofs.theory.Steps.{walk_start}
use Rattle.gaps.proofs.theory.Passed.{answer-nothing, answer-found, answer-numbers}
use Rattle.gaps.proofs.gap.Goals as goal
use Rattle.gaps.proofs.gap.Goals.{In_ok-pair}

pub narrowest-requires : goal.narrowest-requires
narrowest-requires c = let pre = c.requires in (walk_start _ _ _ pre.0 pre.2, pre.1)

pub returns-in_err-pair : goal.returns-in_err-pair
returns-in_err-pair c = ap numbers_of c.from_residual.ensures
    ∙ answer-nothing _ _ _ c.narrowest.result c.narrowest.ensures (c.in_err-pair.was)

-- the pair that was found
found : (c : In_ok-pair) → let args = c.args in let pair = c.in_ok-pair.pair in
    Found (points args.cart.now) args.log.now pair.first pair.second pair.distance
found c = answer-found _ _ _ c.narrowest.result c.narrowest.ensures _ _ _ (c.in_ok-pair.was)

pub head_at-requires : goal.head_at-requires
head_at-requires c = (found (goal.at.head_at-requires c).In_ok-pair).first-sound

pub head_at-requires-2 : goal.head_at-requires-2
head_at-requires-2 c = (found (goal.at.head_at-requires-2 c).In_ok-pair).second-sound

pub returns : goal.returns
returns c =
    answer-numbers _ _ _ c.narrowest.result c.narrowest.ensures _ _ _ (c.in_ok-pair.was) c.head_at.ensures c.head_at-2.ensures
