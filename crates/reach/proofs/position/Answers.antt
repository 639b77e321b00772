-- `position` meets its contract: one subtraction, where the end is passed.
use mathlib.Core.Path.{sym, ◌∙◌, ap}
use mathlib.Core.Bool.{Bool, cond}
use Prim.Native.Nat.{ℕ, ◌+◌, ◌-◌, ◌≤◌, ◌<◌}
use native.Mathlib.Omega.{arith}
use borrow.Author.Tests.{lt-ltb, le-ltb}
use lib.ListN.{length}
use Rattle.plane.specs.Point.{points}
use Rattle.plane.proofs.theory.lists.Flat.{points-length}
use Rattle.reach.proofs.position.Goals as goal

pub overflow_add-k : goal.overflow_add-k
overflow_add-k c =
    omega (arith, c.requires.0, c.requires.1, points-length c.args.list.now)

pub returns-then-k-n : goal.returns-then-k-n
returns-then-k-n c =
    let n = length (points c.args.list.now) in
    let k = c.args.top + c.args.i in
    let h : k < n = omega (arith, c.count-n.ensures, c.if-k-n.true) in
    ap (λ (b : Bool). cond b k (k - n)) (sym (lt-ltb k n h))

pub returns-else-k-n : goal.returns-else-k-n
returns-else-k-n c =
    let n = length (points c.args.list.now) in
    let k = c.args.top + c.args.i in
    let count = c.count-n.ensures in
    let h : n ≤ k = omega (arith, count, c.if-k-n.false) in
    ap (λ (m : ℕ). k - m) count ∙ ap (λ (b : Bool). cond b k (k - n)) (sym (le-ltb k n h))
