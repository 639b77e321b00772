-- `admit_at` meets its contract: a record on another floor has no rows; another is read and its grown shape judged, and what is refused of
-- an older record of its name does not count.
use mathlib.Core.Path.{◌≡◌, sym, ◌∙◌, ap, subst}
use mathlib.Core.Bool.{Bool, true, false, cond}
use mathlib.Core.List.{List, []}
use lib.IntN.{ℤ}
use Rattle.plane.specs.Point.{points}
use Rattle.plane.specs.Reply.{Row, NoneApply}
use Rattle.plane.specs.Refusal.{Valid}
use Rattle.plane.specs.Output.{size_rows}
use Rattle.admission.specs.theory.Judged.{passes, turns-away}
use Rattle.delivery.specs.theory.Delivery.{judged-by}
use Rattle.admission.specs.Admission.{Judged}
use Rattle.growth.specs.Grown.{grown}
use Rattle.journal.specs.Survey.{record_at}
use Rattle.journal.proofs.theory.Stepping.{here-valid}
use Rattle.gaps.specs.Gap.{grown_of}
use Rattle.gaps.specs.Search.{is_on, rows_at}
use Rattle.gaps.proofs.theory.Read.{on-elsewhere, on-here}
use Rattle.gaps.proofs.sizes.admit_at.Goals as goal
use Rattle.gaps.proofs.sizes.admit_at.Goals.{After-admit_grown, After-is_current, Start}

-- 6 and 7 of the record, and those that count, by whether the record is on the floor
abbrev rows : Start → List Row
rows c = size_rows (grown_of (points c.args.cart.now) (record_at c.args.log.now c.args.p))

rows_are : (c : Start) {t : Bool} → let args = c.args in is_on args.floor args.log.now args.p ≡ t
    → cond t (rows c) [] ≡ rows_at (points args.cart.now) args.floor args.log.now args.p
rows_are c e = ap (λ (t : Bool). cond t (rows c) []) (sym e)

-- where none of them applies, none that counts does
none-count : (vs : List Row) (t : Bool) → NoneApply vs → NoneApply (cond t vs [])
none-count vs true n = n
none-count vs false n = tt

-- what was judged is the record
judged : (c : After-admit_grown) →
    Judged (NoneApply (rows (goal.at.After-admit_grown c).Start)) (rows (goal.at.After-admit_grown c).Start) c.admit_grown.result
unfolding grown_of
judged c =
    judged-by (ap (λ (l : List ℤ). size_rows (grown (points l) (points c.args.cart.now))) c.shape_at.ensures)
    c.admit_grown.ensures

-- whether it is the latest of its name is whether it is on the floor
on-as : (c : After-is_current) {t : Bool} → c.is_current.result ≡ t
    →
    is_on c.args.floor c.args.log.now c.args.p ≡ t
on-as c e =
    sym (on-here c.head_at.ensures _ c.if-head_at-floor.false) ∙ sym c.is_current.ensures ∙ e

pub returns-then-head_at-floor : goal.returns-then-head_at-floor
returns-then-head_at-floor c =
    judged-by (rows_are (goal.at.returns-then-head_at-floor c).Start (sym (on-elsewhere c.head_at.ensures _ c.if-head_at-floor.true)))
    (passes tt)

pub admit_grown-requires : goal.admit_grown-requires
admit_grown-requires c =
    let pre = c.requires in
    (subst Valid (sym c.shape_at.ensures) (here-valid pre.0), pre.1)

pub returns-in_default : goal.returns-in_default
returns-in_default c =
    let args = c.args in
    passes (none-count (rows (goal.at.returns-in_default c).Start) (is_on args.floor args.log.now args.p)
    ((judged (goal.at.returns-in_default c).After-admit_grown).valid c.in_default.is))

pub returns-then-is_current : goal.returns-then-is_current
returns-then-is_current c =
    judged-by (rows_are (goal.at.returns-then-is_current c).Start (on-as
    (goal.at.returns-then-is_current c).After-is_current c.if-is_current.true))
    (turns-away ((judged (goal.at.returns-then-is_current c).After-admit_grown).no _ c.in-Err.is))

pub returns-else-is_current : goal.returns-else-is_current
returns-else-is_current c =
    judged-by (rows_are (goal.at.returns-else-is_current c).Start (on-as
    (goal.at.returns-else-is_current c).After-is_current c.if-is_current.false))
    (passes tt)
