-- `zero` meets its contract: a number is 0 exactly if its bits are.
use mathlib.Core.Path.{◌≡◌, refl, sym, ◌∙◌, ap}
use mathlib.Core.Bool.{Bool, ◌&&◌}
use Prim.Native.Nat.{suc, ◌-◌, ◌<◌, ◌^◌}
use native.Mathlib.Omega.{arith}
use borrow.Author.Tests.{eq-eqb, ne_eqb}
use lib.Dec.{eqb}
use lib.IntN.{ℤ, pos, negsuc, nat_abs}
use mir.Syntax.{w32}
use mir.Val.{SFits, of_z}
use Rattle.direction.proofs.zero.Goals as goal

bits : (z : ℤ) → SFits w32 z → eqb (of_z w32 z) 0 ≡ eqb (nat_abs z) 0
bits (pos n) f = refl
bits (negsuc n) f = let below : n < 2 ^ 31 = f.sfits in ne_eqb (2 ^ 32 - suc n) 0 (λ e. omega arith)
    ∙ sym (ne_eqb (suc n) 0 (λ e. omega arith))

pub returns-then-u-eq0 : goal.returns-then-u-eq0
returns-then-u-eq0 c =
    bits _ c.ranges.v ∙ sym (ap (λ (b : Bool). b && eqb (nat_abs c.args.v) 0)
    (sym (bits _ c.ranges.u) ∙ eq-eqb _ 0 c.if-u-eq0.true))

pub returns-else-u-eq0 : goal.returns-else-u-eq0
returns-else-u-eq0 c =
    let other = ne_eqb _ 0 c.if-u-eq0.false in
    other ∙ sym (ap (λ (b : Bool). b && eqb (nat_abs c.args.v) 0) (sym (bits _ c.ranges.u) ∙ other))
