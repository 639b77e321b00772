-- `far_part` meets its contract: the opposite of a small part fits 32 bits.
use mir.Syntax.{w32}
use mathlib.Core.Path.{◌≡◌, sym, ◌∙◌, ap}
use mathlib.Core.Bool.{Bool, cond}
use mir.Facts.{to_z-of_z}
use lib.IntN.{ℤ, pos, neg_ℤ, +ℤ_idl}
use lib.Signed.{lt_z}
use Rattle.integer.specs.Machine.{machine, bounded, machine-fits, machine-is}
use Rattle.contact.specs.Share.{box_part}
use Rattle.contact.proofs.beyond.far_part.Goals as goal

-- by what the test says
by_sign : (d h l : ℤ) {b : Bool} → lt_z d (pos 0) ≡ b → cond b (neg_ℤ l) h ≡ box_part d h l
by_sign d h l e = ap (λ (b : Bool). cond b (neg_ℤ l) h) (sym e)

pub overflow_sub-result : goal.overflow_sub-result
overflow_sub-result c = machine-fits (search (machine, bounded) depth 40) tt

pub returns-then-d-lt0 : goal.returns-then-d-lt0
returns-then-d-lt0 c =
    let args = c.args in
    machine-is (search (machine, bounded) depth 40) tt ∙ +ℤ_idl _
    ∙ by_sign args.d args.high args.low (sym (ap (λ (z : ℤ). lt_z z (pos 0)) (to_z-of_z {w = w32} c.ranges.d)) ∙ c.if-d-lt0.true)

pub returns-else-d-lt0 : goal.returns-else-d-lt0
returns-else-d-lt0 c =
    let args = c.args in
    to_z-of_z {w = w32} c.ranges.high
    ∙ by_sign args.d args.high args.low (sym (ap (λ (z : ℤ). lt_z z (pos 0)) (to_z-of_z {w = w32} c.ranges.d)) ∙ c.if-d-lt0.false)
