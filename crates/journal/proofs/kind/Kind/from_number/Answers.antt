-- `from_number` meets its contract: 1 and 2 are the kinds of records.
use Rattle.std.specs.Prelude.{Bool, not, ◌||◌}
use Rattle.std.proofs.Common.{ap₂, ne_eqb}
use Rattle.journal.specs.Format.{other_kind}
use Rattle.journal.proofs.kind.Kind.from_number.Goals as goal

pub returns : goal.returns
unfolding other_kind
returns c = ap₂ (λ (a b : Bool). not (a || b)) (ne_eqb c.args.n 1 c.if-n.false) (ne_eqb c.args.n 2 c.if-n-2.false)
