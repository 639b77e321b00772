-- `passed_normal` meets its contract: the corner of the other shape, which both ends have in common, drops out.
use mathlib.Core.Path.{◌≡◌, refl, ◌∙◌, ap₂}
use mathlib.Core.Bool.{Bool, cond}
use borrow.Author.Rules.{rules}
use borrow.Author.Tests.{lt-ltb, le-ltb}
use lib.Dec.{ltb}
use Rattle.plane.specs.Cut.{outward}
use Rattle.polygon.specs.theory.Small.{small-plus}
use Rattle.calipers.specs.Side.{corner_of}
use Rattle.separation.specs.theory.Passed.{normal-left, normal-right}
use Rattle.separation.proofs.normal.passed_normal.Goals as goal
use Rattle.calipers.specs.declared.side.Side.{Side}

pub normal-requires : goal.normal-requires
normal-requires c = search (rules, small-plus)

-- which edge it is, by the test
picked : (s t m n : Side) {b : Bool} → ltb s.at m.at ≡ b
    → cond b (outward (corner_of s) (corner_of m)) (outward (corner_of t) (corner_of n))
    ≡ cond (ltb s.at m.at) (outward (corner_of s) (corner_of m)) (outward (corner_of t) (corner_of n))
picked s t m n e = rw e refl

pub returns-then-s-m : goal.returns-then-s-m
returns-then-s-m c =
    let args = c.args in
    c.normal.ensures ∙ ap₂ outward c.here.ensures c.here-then-s-m.ensures
    ∙ normal-right (corner_of args.s) (corner_of args.m) (corner_of args.t)
    ∙ picked args.s args.t args.m args.n (lt-ltb args.s.at args.m.at c.if-s-m.true)

pub normal-requires-2 : goal.normal-requires-2
normal-requires-2 c = search (rules, small-plus)

pub returns : goal.returns
returns c =
    let args = c.args in
    c.normal-2.ensures ∙ ap₂ outward c.here-2.ensures c.here-3.ensures
    ∙ normal-left (corner_of args.t) (corner_of args.n) (corner_of args.s)
    ∙ picked args.s args.t args.m args.n (le-ltb args.s.at args.m.at c.if-s-m.false)
