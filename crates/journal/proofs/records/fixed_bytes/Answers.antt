-- `fixed_bytes` meets its contract: a number that stands for no kind counts as that of a record without a floor.
use Rattle.std.proofs.Common.{◌∙◌, ap}
use Rattle.journal.specs.Format.{fixed_bytes}
use Rattle.journal.specs.Kind.{number}
use Rattle.journal.proofs.theory.Kind.{kind-bytes}
use Rattle.journal.proofs.records.fixed_bytes.Goals as goal

pub returns : goal.returns
returns c =
    c.fixed_bytes.ensures ∙ ap (λ k. fixed_bytes (number k)) c.unwrap_or.ensures
    ∙ kind-bytes c.args.kind c.from_number.result c.from_number.ensures
