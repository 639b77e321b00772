-- `negate` meets its contract. The invariant: i opposites are written.
use mathlib.Core.Path.{◌≡◌, sym, ◌∙◌, ap, ap₂}
use mathlib.Core.List.{List, map}
use Prim.Native.Nat.{◌+◌, ◌^◌, ◌≤◌}
use native.Mathlib.Numerals.{add-one}
use native.Mathlib.Omega.{arith}
use lib.IntN.{ℤ, pos, neg_ℤ, ◌-ℤ◌, +ℤ_idl}
use lib.ListN.{length, drop, set, get_or, length-map, length-drop, get_or-map}
use lib.Seq.{paste, paste-suc, get_or-drop}
use mir.Syntax.{w32}
use mir.Val.{to_z, of_z}
use Rattle.integer.specs.Bound.{Within, within-widen}
use Rattle.integer.specs.Machine.{machine, bounded, machine-fits, machine-is}
use Rattle.plane.specs.Limits.{coordinate-small}
use Rattle.polygon.proofs.opposite.negate.Goals as goal
use Rattle.polygon.proofs.opposite.negate.Goals.{After-out-1, Start}

-- the opposites are enough
enough : (c : Start) → c.args.n ≤ length (map neg_ℤ (drop c.args.from c.args.list.now))
enough c =
    let list = c.args.list.now in
    omega (arith, length-map (drop c.args.from list) neg_ℤ, length-drop c.args.from list, c.requires.0)

-- the next number is in range
near : (c : After-out-1) →
    Within (2 ^ 20) (get_or c.args.list.now (c.args.from + c.loop-i.i) (pos 0))
near c =
    within-widen coordinate-small (c.requires.2.near (c.args.from + c.loop-i.i) (omega (arith, c.requires.0)))

pub overflow_sub-out : goal.overflow_sub-out
overflow_sub-out c = let known = near c in machine-fits (search (machine, bounded) depth 40) tt

-- the number that is written
written : (c : After-out-1) →
    let i = c.loop-i.i in
    to_z w32 (of_z w32 (pos 0 -ℤ to_z w32 (of_z w32 (get_or c.args.list.now (c.args.from + i) (pos 0)))))
    ≡ get_or (map neg_ℤ (drop c.args.from c.args.list.now)) i (pos 0)
written c =
    let list = c.args.list.now in
    let i = c.loop-i.i in
    let known = near c in
    machine-is (search (machine, bounded) depth 40) tt ∙ +ℤ_idl _
    ∙ ap neg_ℤ (sym (get_or-drop c.args.from list i (pos 0))) ∙ sym (get_or-map neg_ℤ (drop c.args.from list) i (pos 0))

pub loop-i-preserved : goal.loop-i-preserved
loop-i-preserved c =
    let args = c.args in
    let i = c.loop-i.i in
    let list = map neg_ℤ (drop args.from args.list.now) in
    ap₂ (λ (l : List ℤ) (x : ℤ). set l (args.to + i) x) c.loop-i.invariant (written c)
    ∙ paste-suc args.out.now args.to list i (pos 0) (omega (arith, c.requires.1)) (omega (arith, enough c.before.before.before))
    ∙ ap (paste args.out.now args.to list) (sym (add-one i))

pub returns : goal.returns
returns c =
    let args = c.args in
    let all : c.loop-i.i ≡ args.n = omega arith in
    c.loop-i.invariant ∙ ap (paste args.out.now args.to (map neg_ℤ (drop args.from args.list.now))) all
