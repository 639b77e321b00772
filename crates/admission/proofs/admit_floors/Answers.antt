-- `admit_floors` meets its contract.
use mathlib.Core.Path.{◌≡◌, ap}
use native.Mathlib.Omega.{arith}
use mathlib.Core.Bool.{not}
use borrow.Author.Tests.{ne_eqb}
use Rattle.plane.specs.Reply.{here}
use Rattle.admission.specs.theory.Judged.{refuses, passes, turns-away}
use Rattle.admission.proofs.admit_floors.Goals as goal

pub returns-then-f-g : goal.returns-then-f-g
returns-then-f-g c = turns-away (refuses (here (ap not (ne_eqb _ _ c.if-f-g.true))))

pub returns : goal.returns
returns c = passes (let same : c.args.f ≡ c.args.g = omega arith in same)
