-- `from` meets its contract: a record that is not on the floor makes no pair, and another is grown and tried with the later ones.
use mathlib.Core.Path.{◌≡◌, sym, ◌∙◌, ap, subst}
use mathlib.Core.Bool.{Bool, true, cond}
use mathlib.Core.List.{List, []}
use Rattle.plane.specs.Point.{points}
use Rattle.journal.specs.Survey.{next_at}
use Rattle.gaps.specs.Gap.{Pair}
use Rattle.gaps.specs.Search.{is_on, later_pairs, pairs_at, Passed}
use Rattle.gaps.proofs.theory.Steps.{walk-fits}
use Rattle.gaps.proofs.theory.Passed.{passed_none}
use Rattle.gaps.proofs.search.from.Goals as goal
use Rattle.gaps.proofs.search.from.Goals.{Else-not-is_on, Start}

-- the pairs, by whether the record is on the floor
pairs-are : (c : Start) {t : Bool} → let args = c.args in is_on args.floor args.log.now args.p ≡ t
    → cond t (later_pairs args.floor args.log.now args.p (next_at args.log.now args.p)) []
    ≡ pairs_at args.floor args.log.now args.p
pairs-are c e = let args = c.args in
    ap (λ (t : Bool). cond t (later_pairs args.floor args.log.now args.p (next_at args.log.now args.p)) []) (sym e)

is-on : (c : Else-not-is_on) → let args = c.args in is_on args.floor args.log.now args.p ≡ true
is-on c = sym c.is_on.ensures ∙ c.if-not-is_on.false

pub returns-then-not-is_on : goal.returns-then-not-is_on
returns-then-not-is_on c =
    let args = c.args in
    let off = sym c.is_on.ensures ∙ c.if-not-is_on.true in
    subst (λ (ps : List Pair). Passed (points args.cart.now) args.log.now ps args.best args.best)
    (pairs-are (goal.at.returns-then-not-is_on c).Start off) (passed_none _ _ _ c.requires.3)

pub grown_at-grown-requires : goal.grown_at-grown-requires
grown_at-grown-requires c =
    let pre = c.requires in
    (pre.1, pre.2, walk-fits _ pre.0 pre.1.here (is-on (goal.at.grown_at-grown-requires c).Else-not-is_on))

pub later-requires : goal.later-requires
later-requires c =
    let pre = c.requires in
    (pre.0, pre.1, pre.2, pre.3, c.grown_at-grown.ensures.0, c.grown_at-grown.ensures.1)

pub returns : goal.returns
returns c =
    let args = c.args in
    subst (λ (ps : List Pair). Passed (points args.cart.now) args.log.now ps args.best c.later.result)
    (pairs-are (goal.at.returns c).Start (is-on (goal.at.returns c).Else-not-is_on)) c.later.ensures
