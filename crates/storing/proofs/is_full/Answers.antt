-- `is_full` meets its contract: how long a record is does not hang on its name and floor.
use Rattle.std.specs.Prelude.{◌≡◌, ◌+◌, ◌*◌, ◌-◌, ltb, length}
use Rattle.std.proofs.Common.{refl, ap, arith}
use Rattle.journal.specs.Format.{recorded}
use Rattle.journal.proofs.theory.Kind.{fixed-floored}
use Rattle.journal.proofs.theory.Read.{recorded-length}
use Rattle.storing.proofs.is_full.Goals as goal

pub overflow_add-result : goal.overflow_add-result
overflow_add-result c = omega (arith, c.fixed_bytes.ensures, fixed-floored 2 refl)

pub overflow_add-result-2 : goal.overflow_add-result-2
overflow_add-result-2 c = omega (arith, c.fixed_bytes.ensures, fixed-floored 2 refl)

pub returns : goal.returns
returns c n f =
    let args = c.args in
    let count : 2 + c.fixed_bytes.result + 4 * length args.list.now ≡ length (recorded n f args.list.now) =
    omega (arith, c.fixed_bytes.ensures, fixed-floored 2 refl, recorded-length n f args.list.now) in
    ap (ltb (length args.log.now - args.end)) count
