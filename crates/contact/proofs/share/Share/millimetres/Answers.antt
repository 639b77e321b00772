-- `millimetres` meets its contract. The invariant: low is reached and high + 1 is not; the measure is what lies between.
use mathlib.Core.Path.{sym, ◌∙◌}
use Prim.Native.Nat.{ℕ, ◌*◌, ◌≤◌}
use native.Mathlib.Nat.{mul-le-mul, mul-pos}
use native.Mathlib.Omega.{arith}
use mir.Syntax.{w64}
use mir.Val.{Fits}
use Rattle.contact.proofs.theory.Found.{spanned-start, spanned-down, spanned-up, spanned-end}
use Rattle.contact.proofs.share.Share.millimetres.Goals as goal

-- a square of at most 2^22
square-fits : (m : ℕ) → m ≤ 4_194_304 → Fits w64 (m * m)
square-fits m h = record { fits = omega (arith, mul-le-mul h h) }

pub loop-low-init : goal.loop-low-init
loop-low-init c = let p = c.requires in spanned-start _ _ _ p.0 p.1 p.2

pub overflow_mul-middle : goal.overflow_mul-middle
overflow_mul-middle c = square-fits _ (omega (arith, c.loop-low.invariant.below))

pub overflow_sub-high : goal.overflow_sub-high
overflow_sub-high c = omega arith

pub loop-low-smaller-then-fraction_less : goal.loop-low-smaller-then-fraction_less
loop-low-smaller-then-fraction_less c = omega arith

pub loop-low-preserved-then-fraction_less : goal.loop-low-preserved-then-fraction_less
loop-low-preserved-then-fraction_less c =
    spanned-down _ c.loop-low.invariant (omega arith) (omega arith) (sym c.fraction_less.ensures ∙ c.if-fraction_less.true)

pub loop-low-smaller : goal.loop-low-smaller
loop-low-smaller c = omega arith

pub loop-low-preserved : goal.loop-low-preserved
loop-low-preserved c =
    spanned-up _ c.loop-low.invariant (omega arith) (sym c.fraction_less.ensures ∙ c.if-fraction_less.false)

pub returns : goal.returns
returns c =
    let p = c.requires in
    spanned-end (mul-pos p.1 p.1) c.loop-low.invariant c.loop-low-test.false
