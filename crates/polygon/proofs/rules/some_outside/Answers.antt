-- `some_outside` meets its contract. The invariant: what is gathered is the test of the first numbers.
use mathlib.Core.Path.{◌≡◌, refl, sym, ◌∙◌, ap, ap₂}
use mathlib.Core.Bool.{Bool, ◌||◌}
use Prim.Native.Nat.{ℕ}
use native.Mathlib.Numerals.{add-one}
use native.Mathlib.Omega.{arith}
use lib.IntN.{pos}
use mir.Syntax.{w32}
use mir.Val.{to_z, of_z}
use mir.Facts.{to_z-of_z}
use borrow.Author.Rules.{rules}
use lib.ListN.{length, get_or}
use Rattle.plane.specs.Search.{some}
use Rattle.plane.specs.Refusal.{outside}
use Rattle.plane.proofs.theory.refusals.Tests.{outside-some}
use Rattle.polygon.proofs.rules.some_outside.Goals as goal

pub loop-z-init : goal.loop-z-init
loop-z-init c = (omega arith, refl)

pub loop-z-preserved : goal.loop-z-preserved
loop-z-preserved c =
    let list = c.args.list.now in
    let i = c.loop-z.z-index in
    let read : to_z w32 (of_z w32 (get_or list i (pos 0))) ≡ get_or list i (pos 0) = search (rules, to_z-of_z) in (
      omega (arith, c.loop-z-test.true),
      ap₂ (λ (s t : Bool). s || t) c.loop-z.invariant.1 (c.outside-some.ensures ∙ ap outside read)
          ∙ ap (some (λ (k : ℕ). outside (get_or list k (pos 0)))) (sym (add-one i)),
    )

pub returns : goal.returns
returns c =
    let list = c.args.list.now in
    let all : c.loop-z.z-index ≡ length list = omega (arith, c.loop-z-test.false, c.loop-z.invariant.0) in
    c.loop-z.invariant.1 ∙ ap (some (λ (k : ℕ). outside (get_or list k (pos 0)))) all
    ∙ outside-some list
