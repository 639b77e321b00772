-- `copy` meets its contract. The invariant: i numbers are copied.
use mir.Syntax.{w32}
use mathlib.Core.Path.{◌≡◌, sym, ◌∙◌, ap, ap₂}
use mathlib.Core.List.{List}
use Prim.Native.Nat.{◌+◌}
use native.Mathlib.Numerals.{add-one}
use native.Mathlib.Omega.{arith}
use borrow.Author.Rules.{sfits_of}
use lib.IntN.{ℤ, pos}
use lib.ListN.{set}
use lib.Seq.{paste, paste-suc}
use mir.Facts.{to_z-of_z}
use Rattle.polygon.proofs.numbers.copy.Goals as goal

pub loop-i-preserved : goal.loop-i-preserved
loop-i-preserved c =
    let i = c.loop-i.i in
    let old = c.args.out.now in
    let list = c.args.list.now in
    ap₂ (λ (l : List ℤ) (x : ℤ). set l (c.args.start + i) x) c.loop-i.invariant (to_z-of_z {w = w32} (sfits_of c.out-1.given))
    ∙ paste-suc old c.args.start list i (pos 0) (omega (arith, c.requires.1)) (omega (arith, c.requires.0))
    ∙ ap (paste old c.args.start list) (sym (add-one i))

pub returns : goal.returns
returns c =
    let all : c.loop-i.i ≡ c.args.n = omega arith in
    c.loop-i.invariant ∙ ap (paste c.args.out.now c.args.start c.args.list.now) all
