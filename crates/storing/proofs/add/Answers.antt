-- `add` meets its contract: what is torn is cleared, then the record is written.
use native.Mathlib.Omega.{arith}
use Rattle.journal.specs.Format.{recorded}
use Rattle.journal.proofs.theory.Read.{recorded-length}
use Rattle.journal.proofs.theory.Storing.{ran-stores}
use Rattle.storing.proofs.add.Goals as goal

pub returns : goal.returns
returns c =
    let args = c.args in
    let r = recorded args.name args.floor args.list.now in
    ran-stores args.end r c.requires.0 (omega (arith, recorded-length args.name args.floor args.list.now))
    c.clear-left.ensures c.write.ensures.0 c.write.ensures.1
