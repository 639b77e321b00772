-- `is_shape` meets its contract: each test is one that a shape passes, and together they make one.
use mathlib.Core.Path.{◌≡◌, refl, sym, ◌∙◌, subst}
use mathlib.Core.Bool.{false≢true}
use Prim.Native.Nat.{ℕ, ◌+◌, ◌≤◌, ◌<◌}
use native.Mathlib.Omega.{arith}
use lib.ListN.{length}
use Rattle.plane.specs.Point.{points}
use Rattle.plane.specs.Forms.{edges}
use Rattle.plane.proofs.theory.lists.Flat.{points-length}
use Rattle.plane.proofs.theory.sum.Positions.{edges_some}
use Rattle.convexity.specs.theory.Convex.{point-shape, pair-shape, round-shape, shape-begins, shape-falls, shape-closes}
use Rattle.convexity.proofs.is_shape.Goals as goal
use Rattle.convexity.proofs.is_shape.Goals.{Else-n-eq1, Else-n-eq2}

-- past the first test there are two corners, past the third there are three, and as many edges
two : (c : Else-n-eq1) → 1 < length (points c.args.list.now)
two c = omega (arith, c.if-n-eq1.false, c.count-n.ensures, c.requires.1)

three : (c : Else-n-eq2) → let ps = points c.args.list.now in
    (2 < length ps) × (length (edges ps) ≡ length ps) × (c.count-n.result ≡ length ps)
three c =
    let n = c.count-n.ensures in
    let more = two c.before.before.before in
    (omega (arith, c.if-n-eq2.false), edges_some (points c.args.list.now) more, n)

pub returns-then-n-eq1 : goal.returns-then-n-eq1
returns-then-n-eq1 c = ((λ t. point-shape _ (sym c.count-n.ensures ∙ c.if-n-eq1.true)), (λ s. refl))

pub returns-then-not-precedes_at : goal.returns-then-not-precedes_at
returns-then-not-precedes_at c = (
  (λ t. absurd (false≢true t)),
  (λ s. sym (c.if-not-precedes_at.true) ∙ c.precedes_at.ensures ∙ shape-begins _ s (two c.before.before)),
)

pub returns-then-n-eq2 : goal.returns-then-n-eq2
returns-then-n-eq2 c =
    let n = c.count-n.ensures in (
      (λ t. pair-shape _ (sym n ∙ c.if-n-eq2.true) (sym c.precedes_at.ensures ∙ c.if-not-precedes_at.false)),
      (λ s. refl),
    )

pub stretch-end-requires : goal.stretch-end-requires
stretch-end-requires c =
    let more = three c.before in
    (omega (arith, c.stretch-top.ensures.ends, more.1), c.requires.0)

pub overflow_add-end : goal.overflow_add-end
overflow_add-end c =
    omega (arith, c.stretch-end.ensures.ends, (three c.before.before).1, points-length c.args.list.now)

pub returns-then-end-n : goal.returns-then-end-n
returns-then-end-n c =
    let more = three c.before.before.before in (
      (λ t. absurd (false≢true t)),
      (λ s. absurd (omega (
        arith,
        c.if-end-n.true,
        more.2,
        shape-falls _ s more.0 _ _ c.stretch-top.ensures c.stretch-end.ensures,
      ))),
    )

pub closes-requires : goal.closes-requires
closes-requires c =
    ((three c.before.before.before).0, c.requires.0)

pub returns : goal.returns
returns c =
    let more = three c.before.before.before.before in
    let whole = subst (λ (n : ℕ). n ≤ c.stretch-end.result + 2) more.2 c.if-end-n.false in
    let first = sym c.precedes_at.ensures ∙ c.if-not-precedes_at.false in (
      (λ t. round-shape _ more.0 first _ _ c.stretch-top.ensures c.stretch-end.ensures
          whole (sym c.closes.ensures ∙ t)),
      (λ s. c.closes.ensures ∙ shape-closes _ s more.0),
    )
