-- `is_place` meets its contract: test by test, and the places are told by these tests.
use mathlib.Core.Path.{◌≡◌, sym, ◌∙◌, ap}
use mathlib.Core.Bool.{Bool, true, false, ◌&&◌}
use Prim.Native.Nat.{◌+◌, ◌-◌, ◌≤◌}
use native.Mathlib.Omega.{arith}
use borrow.Author.Tests.{lt-ltb, le-ltb}
use lib.ListN.{length}
use Rattle.plane.specs.Limits.{max_corners, corners-small}
use Rattle.plane.specs.Point.{points}
use Rattle.plane.specs.Forms.{edges}
use Rattle.plane.proofs.theory.sum.Positions.{edges-at-most}
use Rattle.sums.specs.Advance.{state}
use Rattle.sums.specs.PlaceAfter.{is_place}
use Rattle.sums.specs.PlaceTest.{follows, ends, stands_at}
use Rattle.sums.specs.theory.PlaceTest.{place-test}
use Rattle.sums.proofs.walk.is_place.Goals as goal
use Rattle.sums.proofs.walk.is_place.Goals.{After-ends, After-sides-n, Else-m-i, Else-n-j, Else-not-ends}

-- past the first two tests the edges are there
first-in : (c : Else-m-i) → c.args.i ≤ length (edges (points c.args.a.now))
first-in c = omega (arith, c.sides-m.ensures, c.if-m-i.false)

second-in : (c : Else-n-j) →
    c.args.j ≤ length (edges (points c.args.b.now))
second-in c = omega (arith, c.sides-n.ensures, c.if-n-j.false)

-- as many edges as corners, at most
few : (c : After-sides-n) → c.sides-m.result + c.sides-n.result ≤ max_corners + max_corners
few c =
    omega (
      arith,
      c.sides-m.ensures,
      c.sides-n.ensures,
      edges-at-most (points c.args.a.now),
      edges-at-most (points c.args.b.now),
      c.requires.0.few,
      c.requires.1.few,
    )

-- what the third test says, in edges
ending : (c : After-ends) →
    let E = edges (points c.args.a.now) in
    let F = edges (points c.args.b.now) in
    c.ends.result ≡ ends (length E - c.args.i + (length F - c.args.j)) (length E + length F) c.args.over
ending c =
    rw (← c.sides-m.ensures, ← c.sides-n.ensures) c.ends.ensures

-- past the first two tests it is a place if the third passes and both lists follow
tested : (c : After-ends) → let args = c.args in
    let E = edges (points args.a.now) in
    let F = edges (points args.b.now) in
    (c.ends.result && (follows E args.i F args.j && follows F args.j E args.i))
    ≡ is_place args.a.now args.b.now (state args.i args.j args.over)
unfolding stands_at
tested c =
    let args = c.args in
    rw (
      place-test args.a.now args.b.now c.requires.0 c.requires.1 (state args.i args.j args.over),
      le-ltb (length (edges (points args.a.now))) args.i (first-in c.before.before),
      le-ltb (length (edges (points args.b.now))) args.j (second-in c.before),
      ending c,
    )

pub returns-then-m-i : goal.returns-then-m-i
unfolding stands_at
returns-then-m-i c =
    let args = c.args in
    rw (
      place-test args.a.now args.b.now c.requires.0 c.requires.1 (state args.i args.j args.over),
      lt-ltb (length (edges (points args.a.now))) args.i (omega (arith, c.sides-m.ensures, c.if-m-i.true)),
    )

pub returns-then-n-j : goal.returns-then-n-j
unfolding stands_at
returns-then-n-j c =
    let args = c.args in
    rw (
      place-test args.a.now args.b.now c.requires.0 c.requires.1 (state args.i args.j args.over),
      le-ltb (length (edges (points args.a.now))) args.i (first-in c.before),
      lt-ltb (length (edges (points args.b.now))) args.j (omega (arith, c.sides-n.ensures, c.if-n-j.true)),
    )

pub overflow_add-m : goal.overflow_add-m
overflow_add-m c = omega (arith, few c.before.before, corners-small)

pub overflow_add-m-2 : goal.overflow_add-m-2
overflow_add-m-2 c = omega (arith, few c.before.before, corners-small)

-- the test of the end, once it is known
told : (c : After-ends) (t : Bool) → c.ends.result ≡ t → let args = c.args in
    let E = edges (points args.a.now) in
    let F = edges (points args.b.now) in
    (t && (follows E args.i F args.j && follows F args.j E args.i))
    ≡ is_place args.a.now args.b.now (state args.i args.j args.over)
told c t e =
    let args = c.args in
    let E = edges (points args.a.now) in
    let F = edges (points args.b.now) in
    ap (λ (t : Bool). t && (follows E args.i F args.j && follows F args.j E args.i)) (sym e) ∙ tested c

pub returns-then-not-ends : goal.returns-then-not-ends
returns-then-not-ends c = told c.before false (c.if-not-ends.true)

-- past these tests it is a place if both lists follow
both-follow : (c : Else-not-ends) → let args = c.args in
    let E = edges (points args.a.now) in
    let F = edges (points args.b.now) in
    (follows E args.i F args.j && follows F args.j E args.i)
    ≡ is_place args.a.now args.b.now (state args.i args.j args.over)
both-follow c = told c.before true (c.if-not-ends.false)

pub follows-requires : goal.follows-requires
follows-requires c =
    let pre = c.requires in (first-in c.before.before.before, second-in c.before.before, pre.0, pre.1)

pub follows-requires-then-follows : goal.follows-requires-then-follows
follows-requires-then-follows c =
    let pre = c.requires in (second-in c.before.before.before.before, first-in c.before.before.before.before.before, pre.1, pre.0)

pub returns-then-follows : goal.returns-then-follows
returns-then-follows c =
    let args = c.args in
    c.follows-then-follows.ensures
    ∙ ap (λ (t : Bool). t && follows (edges (points args.b.now)) args.j (edges (points args.a.now)) args.i)
    (sym c.if-follows.true ∙ c.follows.ensures) ∙ both-follow c.before.before.before

pub returns-else-follows : goal.returns-else-follows
returns-else-follows c =
    let args = c.args in
    c.if-follows.false ∙ ap (λ (t : Bool). t && follows (edges (points args.b.now)) args.j (edges (points args.a.now)) args.i)
    (sym c.if-follows.false ∙ c.follows.ensures) ∙ both-follow c.before.before
