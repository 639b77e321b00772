-- `is_passed` meets its contract: the record is on another floor, or nothing is kept yet, or the boxes decide.
use mathlib.Core.Path.{sym, ◌∙◌, ap, subst}
use mathlib.Core.Bool.{not, true≢false}
use Rattle.plane.specs.Refusal.{Valid}
use Rattle.plane.specs.Distance.{distance}
use Rattle.journal.specs.Survey.{record_at}
use Rattle.journal.proofs.theory.Stepping.{here-valid}
use Rattle.gaps.specs.Gap.{grown_of}
use Rattle.gaps.specs.Search.{is_nearer, KeptSized}
use Rattle.gaps.proofs.theory.Read.{on-elsewhere, grown_of-shape, grown_of-spans}
use Rattle.gaps.proofs.search.is_passed.Goals as goal

pub returns-then-head_at-floor : goal.returns-then-head_at-floor
returns-then-head_at-floor c =
    let elsewhere = on-elsewhere c.head_at.ensures _ c.if-head_at-floor.true in
    λ k on A G a s x. absurd (true≢false (sym (elsewhere ∙ on)))

pub returns-in_default : goal.returns-in_default
returns-in_default c = λ k. absurd (true≢false (sym k))

pub shape_at-requires : goal.shape_at-requires
shape_at-requires c = c.requires.0

pub is_far-requires : goal.is_far-requires
is_far-requires c =
    let pre = c.requires in
    (pre.2, subst Valid (sym c.shape_at.ensures) (here-valid pre.0), subst KeptSized c.in-Some.is pre.1)

pub returns : goal.returns
returns c =
    let args = c.args in
    let r = record_at args.log.now args.q in
    let valid = here-valid c.requires.0 in
    λ k on A G a s x. ap (is_nearer (distance G (grown_of A r))) c.in-Some.is
    ∙ ap not (c.is_far.ensures k G (grown_of A r) s (grown_of-shape A r valid a) (grown_of-spans A r valid a x c.shape_at.ensures))
