-- `floor_at` meets its contract: only a record of kind 2 says a floor, and it is long enough to have it.
use Rattle.std.specs.Prelude.{Bool, cond, drop}
use Rattle.std.proofs.Common.{sym, ◌∙◌, ap, arith}
use Rattle.endian.specs.Bytes.{pair_at}
use Rattle.endian.specs.theory.Bytes.{pair_at-drop}
use Rattle.journal.specs.Format.{kind, floor}
use Rattle.journal.proofs.theory.Kind.{floored-bytes, floored-if, plain-if}
use Rattle.journal.proofs.records.floor_at.Goals as goal

pub returns-then-fixed-fixed_bytes : goal.returns-then-fixed-fixed_bytes
unfolding floor
returns-then-fixed-fixed_bytes c =
    let t = drop c.args.p c.args.log.now in
    sym (ap (λ (x : Bool). cond x (pair_at t 6) 0)
    (plain-if (kind t) (omega (arith, c.requires.1, c.if-fixed-fixed_bytes.true, c.fixed_bytes.ensures, floored-bytes))))

pub overflow_add-p : goal.overflow_add-p
overflow_add-p c = omega (arith, c.requires.0.inside)

pub pair_at-requires : goal.pair_at-requires
pair_at-requires c =
    let legible = c.requires.0 in
    omega (arith, legible.inside, legible.long, c.requires.1, c.if-fixed-fixed_bytes.false, c.fixed_bytes.ensures, floored-bytes)

pub returns : goal.returns
unfolding floor
returns c =
    let t = drop c.args.p c.args.log.now in
    c.pair_at.ensures.0 ∙ sym (pair_at-drop c.args.log.now c.args.p 6)
    ∙ sym (ap (λ (x : Bool). cond x (pair_at t 6) 0)
    (floored-if (kind t) (omega (arith, c.requires.1, c.if-fixed-fixed_bytes.false, c.fixed_bytes.ensures, floored-bytes))))
