-- `look` meets its contract: the record is on another floor, or it is read, and kept if it is sooner and the latest of its name.
use mathlib.Core.Path.{sym, subst}
use mathlib.Core.List.{List}
use lib.IntN.{ℤ}
use Rattle.plane.specs.Point.{points}
use Rattle.plane.specs.Refusal.{Valid}
use Rattle.polygon.specs.Point.{at}
use Rattle.growth.specs.Grown.{grown}
use Rattle.journal.proofs.theory.Stepping.{here-valid}
use Rattle.gaps.specs.Gap.{grown_of}
use Rattle.drives.specs.Search.{MetAs, Onward}
use Rattle.drives.specs.theory.Walked.{onward-elsewhere, onward-kept}
use Rattle.drives.proofs.look.Goals as goal

pub returns-then-head_at-floor : goal.returns-then-head_at-floor
returns-then-head_at-floor c =
    let args = c.args in
    onward-elsewhere c.requires.0 c.requires.1 c.head_at.ensures (at args.t) (at args.u) args.best c.if-head_at-floor.true

pub meet-requires : goal.meet-requires
meet-requires c =
    let pre = c.requires in
    (subst Valid (sym c.shape_at.ensures) (here-valid pre.1), pre.2, pre.3)

pub returns : goal.returns
unfolding grown_of
returns c =
    let args = c.args in
    let t = at args.t in
    let u = at args.u in
    let A = points args.cart.now in
    let m = c.meet.result in
    let met = subst (λ (l : List ℤ). MetAs t u (grown (points l) A) m) c.shape_at.ensures c.meet.ensures in
    subst (Onward A t u args.floor args.log.now args.p args.best) (sym c.kept.ensures)
    (onward-kept c.requires.0 c.requires.1 c.head_at.ensures t u args.best c.if-head_at-floor.false m met)
