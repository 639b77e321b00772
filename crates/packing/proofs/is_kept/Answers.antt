-- `is_kept` meets its contract: first the name, then whether the record is current.
use mathlib.Core.Path.{◌≡◌, sym, ◌∙◌, ap}
use mathlib.Core.Bool.{Bool, not, ◌&&◌}
use native.Mathlib.Omega.{arith}
use borrow.Author.Tests.{eq-eqb, ne_eqb}
use lib.ListN.{drop}
use Rattle.journal.specs.Format.{records, name}
use Rattle.journal.specs.Reading.{held}
use Rattle.journal.specs.Current.{is_other}
use Rattle.journal.specs.Survey.{record_at, next_at}
use Rattle.journal.proofs.theory.Survey.{name-at}
use Rattle.journal.proofs.theory.Stepping.{name-here, name-inside}
use Rattle.packing.proofs.is_kept.Goals as goal
use Rattle.packing.proofs.is_kept.Goals.{After-pair_at}

name-read : (c : After-pair_at) → let args = c.args in
    name (record_at args.old.now args.p) ≡ c.pair_at.result
name-read c = name-here c.requires.0 ∙ name-at _ _ ∙ sym c.pair_at.ensures.0

pub overflow_add-p : goal.overflow_add-p
overflow_add-p c = omega (arith, name-inside c.requires.0)

pub pair_at-requires : goal.pair_at-requires
pair_at-requires c = omega (arith, name-inside c.requires.0)

pub returns-then-pair_at-but : goal.returns-then-pair_at-but
unfolding is_other
returns-then-pair_at-but c =
    let args = c.args in
    let b = args.old.now in
    let later = held (name (record_at b args.p)) (records (drop (next_at b args.p) b)) in
    c.is_latest.ensures
    ∙ sym (ap (λ (t : Bool). not t && not later)
    (ne_eqb _ args.but (λ e. c.if-pair_at-but.true (sym (name-read (goal.at.returns-then-pair_at-but c).After-pair_at) ∙ e))))

pub returns-else-pair_at-but : goal.returns-else-pair_at-but
unfolding is_other
returns-else-pair_at-but c =
    let args = c.args in
    let b = args.old.now in
    let later = held (name (record_at b args.p)) (records (drop (next_at b args.p) b)) in
    ap not (eq-eqb _ args.but c.if-pair_at-but.false)
    ∙ sym (ap (λ (t : Bool). not t && not later)
    (eq-eqb _ args.but (name-read (goal.at.returns-else-pair_at-but c).After-pair_at ∙ c.if-pair_at-but.false)))
