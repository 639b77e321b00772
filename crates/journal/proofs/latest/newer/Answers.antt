-- `newer` meets its contract: the record has the name, or what was found stays.
use mathlib.Core.Path.{sym, ap}
use mathlib.Core.Bool.{Bool, cond}
use Rattle.std.specs.Prelude.{Some}
use borrow.Author.Tests.{eq-eqb, ne_eqb}
use Rattle.journal.specs.Survey.{found_of}
use Rattle.journal.proofs.latest.newer.Goals as goal

pub returns-then-head-name : goal.returns-then-head-name
returns-then-head-name c =
    let args = c.args in
    sym (ap (λ (x : Bool). cond x (Some (found_of args.head)) args.found) (ne_eqb _ args.name c.if-head-name.true))

pub returns : goal.returns
returns c =
    let args = c.args in
    sym (ap (λ (x : Bool). cond x (Some (found_of args.head)) args.found) (eq-eqb _ args.name c.if-head-name.false))
