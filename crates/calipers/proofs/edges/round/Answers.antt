-- `round` meets its contract.
use mathlib.Core.Path.{◌≡◌, sym, ◌∙◌, ap}
use mathlib.Core.Bool.{Bool, cond}
use borrow.Author.Tests.{eq-eqb, ne_eqb}
use native.Mathlib.Omega.{arith}
use lib.ListN.{length}
use Rattle.plane.specs.Point.{points}
use Rattle.calipers.proofs.edges.round.Goals as goal

pub returns-then-i-count : goal.returns-then-i-count
returns-then-i-count c = record
    { value = ap (λ (b : Bool). cond b 0 c.args.i) (sym (eq-eqb _ _ (c.if-i-count.true ∙ c.count.ensures))); upper_bound = c.requires.1 }

pub returns-else-i-count : goal.returns-else-i-count
returns-else-i-count c = let other : c.args.i ≡ length (points c.args.list.now) → ⊥ = λ e. c.if-i-count.false (e ∙ sym c.count.ensures) in
    record { value = ap (λ (b : Bool). cond b 0 c.args.i) (sym (ne_eqb _ _ other)); upper_bound = omega (arith, other, c.requires.0) }
