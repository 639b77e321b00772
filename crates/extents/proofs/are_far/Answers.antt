-- `are_far` meets its contract: the gap of the boxes is at most the distance, and at least what it is compared with.
use mathlib.Core.Path.{◌≡◌, sym, ◌∙◌, ap, subst}
use borrow.Author.Tests.{not-true, ltb-false}
use mir.Syntax.{w64}
use mir.Val.{to_z, of_z}
use lib.IntN.{pos}
use lib.Signed.{◌≤ℤ◌}
use Rattle.integer.specs.Machine.{result-is}
use Rattle.plane.specs.Point.{◌⊕◌}
use Rattle.polygon.specs.Point.{at}
use Rattle.extents.specs.Far.{past, gap_of}
use Rattle.extents.specs.theory.Gaps.{AtMost, gap-nonneg, gap-at-most, at-most-far}
use Rattle.extents.proofs.are_far.Goals as goal
use Rattle.extents.proofs.are_far.Goals.{After-gap-apart}

-- the gap that the code found
gap_is : (c : After-gap-apart) → let args = c.args in to_z w64 (of_z w64 c.gap-apart.result) ≡ gap_of args.e args.f
gap_is c =
    let args = c.args in
    result-is w64 c.gap-apart.type_inv (c.gap-apart.ensures ∙ ap (λ z. past z (at args.e.low ⊕ at args.f.high))
    (result-is w64 c.gap-ahead.type_inv c.gap-ahead.ensures))

pub magnitude-requires : goal.magnitude-requires
magnitude-requires c =
    let args = c.args in
    subst (λ z. pos 0 ≤ℤ z) (sym (gap_is c)) (gap-nonneg args.e args.f)

pub returns : goal.returns
returns c k A B s t x =
    let args = c.args in
    at-most-far A B s t c.magnitude.result args.turn args.squared
    (ltb-false _ _ (sym c.fraction_less.ensures ∙ not-true _ k))
    (subst (AtMost A B) (sym (gap_is c.before.before) ∙ c.magnitude.ensures) (gap-at-most A B s t x))
