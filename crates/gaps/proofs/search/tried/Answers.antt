-- `tried` meets its contract: a record that is passed over, or is not on the floor, changes nothing; another is grown and compared.
use mathlib.Core.Path.{◌≡◌, sym, ◌∙◌, ap, ap₂, subst}
use mathlib.Core.Bool.{Bool, true, false, cond, true≢false}
use mathlib.Core.List.{List, [], ◌∷◌}
use Rattle.std.specs.Prelude.{Option}
use Rattle.plane.specs.Point.{points}
use Rattle.plane.specs.Clearance.{clearance_numbers}
use Rattle.clearance.specs.theory.Replies.{spaced-numbers}
use Rattle.gaps.specs.Gap.{Pair, gap_of}
use Rattle.gaps.specs.Search.{is_on, is_nearer, pair_at, tried_at, Found, Passed, nearer}
use Rattle.gaps.specs.declared.search.Best.{Best}
use Rattle.gaps.proofs.theory.Steps.{walk-fits}
use Rattle.gaps.proofs.theory.Read.{pair-gap, found_of, left_out}
use Rattle.gaps.proofs.theory.Passed.{passed-left, passed-tried, told-sized}
use Rattle.gaps.proofs.search.tried.Goals as goal
use Rattle.gaps.proofs.search.tried.Goals.{After-between, Else-not-is_on, Start}

-- what is kept stays, unless the record is on the floor and its pair is nearer
left : (c : Start) → let args = c.args in let A = points args.cart.now in
    (is_on args.floor args.log.now args.q ≡ true
    → is_nearer (gap_of A (pair_at args.log.now args.p args.q)) args.best ≡ false)
    → Passed A args.log.now (tried_at args.floor args.log.now args.p args.q) args.best args.best
left c far =
    let args = c.args in
    let pre = c.requires in
    passed-left (points args.cart.now) args.log.now args.floor args.p args.q args.best pre.4
    (pair-gap (points args.cart.now) args.log.now args.p args.q pre.3.shape.some pre.1 pre.2) far

pub is_passed-requires : goal.is_passed-requires
is_passed-requires c =
    (c.requires.2, told-sized _ _ c.args.best c.requires.4, c.requires.8)

pub returns-then-is_passed : goal.returns-then-is_passed
returns-then-is_passed c =
    let args = c.args in
    let pre = c.requires in
    left (goal.at.returns-then-is_passed c).Start (left_out (points args.cart.now) args.log.now args.p args.q pre.3.shape.some pre.1 pre.2
    args.floor args.best pre.6 pre.7 (c.is_passed.ensures c.if-is_passed.true))

pub returns-then-not-is_on : goal.returns-then-not-is_on
returns-then-not-is_on c =
    let off = sym c.is_on.ensures ∙ c.if-not-is_on.true in
    left (goal.at.returns-then-not-is_on c).Start (λ on. absurd (true≢false (sym on ∙ off)))

is-on : (c : Else-not-is_on) → let args = c.args in is_on args.floor args.log.now args.q ≡ true
is-on c = sym c.is_on.ensures ∙ c.if-not-is_on.false

pub grown_at-other-requires : goal.grown_at-other-requires
grown_at-other-requires c =
    let pre = c.requires in
    (pre.2, pre.3, walk-fits _ pre.0 pre.2.here (is-on (goal.at.grown_at-other-requires c).Else-not-is_on))

pub between-requires : goal.between-requires
between-requires c = (c.requires.5, c.grown_at-other.ensures.0)

-- how far apart the two are
found : (c : After-between) → let args = c.args in
    Found (points args.cart.now) args.log.now args.p args.q c.between.result
found c =
    let pre = c.requires in
    found_of _ _ _ _ pre.3.shape.some pre.1 pre.2 c.between.result
    (spaced-numbers _ _ c.between.result c.between.ensures ∙ ap₂ clearance_numbers pre.6 c.grown_at-other.ensures.1)

pub nearer-requires : goal.nearer-requires
nearer-requires c =
    ((found (goal.at.nearer-requires c).After-between).sized, told-sized _ _ c.args.best c.requires.4)

pub returns : goal.returns
returns c =
    let args = c.args in
    let A = points args.cart.now in
    let pairs = ap (λ (t : Bool). cond t (pair_at args.log.now args.p args.q ∷ []) []) (sym (is-on (goal.at.returns c).Else-not-is_on)) in
    let passed = passed-tried A args.log.now args.p args.q c.between.result args.best c.requires.4
    (found (goal.at.returns c).After-between) in
    subst (λ (r : Option Best). Passed A args.log.now (tried_at args.floor args.log.now args.p args.q) args.best r)
    (sym c.nearer.ensures)
    (subst (λ (ps : List Pair). Passed A args.log.now ps args.best (nearer args.p args.q c.between.result args.best)) pairs passed)
