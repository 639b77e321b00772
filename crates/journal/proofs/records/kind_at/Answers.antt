-- `kind_at` meets its contract: the record is long enough to have a kind, and of one that a record may have.
use Rattle.std.specs.Prelude.{Option, MatchOption}
use Rattle.std.proofs.Common.{sym, ◌∙◌, ap, arith, subst, ◌≡◌, true}
use Rattle.journal.specs.Format.{other_kind}
use Rattle.journal.specs.Kind.{number}
use Rattle.journal.specs.declared.kind.Kind.{Kind}
use Rattle.journal.proofs.theory.Kind.{kind-some}
use Rattle.journal.proofs.theory.Survey.{kind_at}
use Rattle.journal.proofs.theory.Stepping.{name-inside, kind-good}
use Rattle.journal.proofs.records.kind_at.Goals as goal

pub overflow_add-p : goal.overflow_add-p
overflow_add-p c = omega (arith, name-inside c.requires)

pub pair_at-requires : goal.pair_at-requires
pair_at-requires c = omega (arith, name-inside c.requires)

pub unwrap-requires : goal.unwrap-requires
unwrap-requires c =
    kind-some _ _ c.from_number.ensures (ap other_kind (c.pair_at.ensures.0 ∙ sym (kind_at _ _)) ∙ kind-good c.requires)

pub returns : goal.returns
returns c =
    let read = kind_at c.args.log.now c.args.p ∙ sym c.pair_at.ensures.0 in
    read ∙ subst (λ (o : Option Kind). MatchOption o (other_kind c.pair_at.result ≡ true) (λ k. c.pair_at.result ≡ number k))
    c.unwrap.ensures c.from_number.ensures
