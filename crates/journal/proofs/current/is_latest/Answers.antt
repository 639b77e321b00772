-- `is_latest` meets its contract: the table says it of the record, or it is looked up.
use mathlib.Core.Path.{◌≡◌, sym, ◌∙◌, ap, subst}
use mathlib.Core.Bool.{not}
use Prim.Native.Nat.{ℕ}
use native.Mathlib.Omega.{arith}
use lib.ListN.{drop}
use Rattle.journal.specs.Format.{records, name}
use Rattle.journal.specs.Reading.{held}
use Rattle.journal.specs.Survey.{record_at, next_at}
use Rattle.journal.proofs.theory.Survey.{name-at}
use Rattle.journal.proofs.theory.Stepping.{name-here, name-inside}
use Rattle.journal.proofs.theory.Marks.{Later, marked-none, marked-held}
use Rattle.journal.proofs.current.is_latest.Goals as goal
use Rattle.journal.proofs.current.is_latest.Goals.{After-pair_at-name, Else-last-p}

name-read : (c : After-pair_at-name) → let args = c.args in
    name (record_at args.log.now args.p) ≡ c.pair_at-name.result
name-read c = name-here c.requires.0 ∙ name-at _ _ ∙ sym c.pair_at-name.ensures.0

-- a record is at that place, and it comes later
later : (c : Else-last-p) →
    let args = c.args in
    Later args.log.now (next_at args.log.now args.p) c.in-Some.field-0.now
later c =
    let args = c.args in
    let place = c.in-Some.ensures.lookup.3 in
    subst (Later args.log.now (next_at args.log.now args.p)) (sym (place.1 0))
    (marked-held c.requires.1 c.requires.0 (name-read (goal.at.Else-last-p c).After-pair_at-name) place.0
    (omega (arith, c.if-last-p.false, place.1 0)))

pub overflow_add-p : goal.overflow_add-p
overflow_add-p c = omega (arith, name-inside c.requires.0)

pub pair_at-name-requires : goal.pair_at-name-requires
pair_at-name-requires c = omega (arith, name-inside c.requires.0)

pub returns-then-last-p : goal.returns-then-last-p
returns-then-last-p c =
    let log = c.args.log.now in
    let read = name-read (goal.at.returns-then-last-p c).After-pair_at-name in
    let place = c.in-Some.ensures.lookup.3 in
    sym (ap (λ (n : ℕ). not (held n (records (drop (next_at log c.args.p) log)))) read
    ∙ ap not (marked-none c.requires.1 c.requires.0 read place.0
    (omega (arith, c.if-last-p.true, place.1 0))))

pub overflow_add-last : goal.overflow_add-last
overflow_add-last c = omega (arith, name-inside (later c).sound)

pub pair_at-requires : goal.pair_at-requires
pair_at-requires c = omega (arith, name-inside (later c).sound)

pub returns-then-pair_at-name : goal.returns-then-pair_at-name
returns-then-pair_at-name c =
    let args = c.args in
    let log = args.log.now in
    let it = later (goal.at.returns-then-pair_at-name c).Else-last-p in
    sym (ap (λ (n : ℕ). not (held n (records (drop (next_at log args.p) log))))
    (name-read (goal.at.returns-then-pair_at-name c).After-pair_at-name ∙ sym c.if-pair_at-name.true ∙ c.pair_at.ensures.0 ∙ sym
    (name-here it.sound ∙ name-at _ _))
    ∙ ap not it.has)
