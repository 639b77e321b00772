-- `fixed_bytes` meets its contract: only kind 2 has a floor.
use Rattle.std.proofs.Common.{sym, ap}
use Rattle.journal.specs.Format.{fixed_bytes}
use Rattle.journal.specs.Kind.{number}
use Rattle.journal.proofs.kind.Kind.fixed_bytes.Goals as goal

pub returns-in-Plain : goal.returns-in-Plain
unfolding fixed_bytes
returns-in-Plain c = sym (ap (λ k. fixed_bytes (number k)) c.in-Plain.is)

pub returns-in-Floored : goal.returns-in-Floored
unfolding fixed_bytes
returns-in-Floored c = sym (ap (λ k. fixed_bytes (number k)) c.in-Floored.is)
