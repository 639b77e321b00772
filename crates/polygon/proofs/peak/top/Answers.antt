-- `top` meets its contract. The invariant: the corners rise up to the top so far.
use mathlib.Core.Path.{◌≡◌, sym, ◌∙◌, subst}
use mathlib.Core.Bool.{true}
use Prim.Native.Nat.{ℕ, suc}
use native.Mathlib.Numerals.{add-one}
use native.Mathlib.Omega.{arith}
use borrow.Author.Count.{below_more}
use Rattle.plane.specs.Point.{points, corner}
use Rattle.plane.specs.Shape.{precedes}
use Rattle.polygon.proofs.peak.top.Goals as goal
use Rattle.polygon.proofs.peak.top.Goals.{After-precedes_at}

pub precedes_at-requires : goal.precedes_at-requires
precedes_at-requires c =
    let count = c.count-last.ensures in
    (omega (arith, count), omega (arith, count))

-- the next corner, by the code's position
told : (c : After-precedes_at) →
    let ps = points c.args.list.now in
    precedes (corner ps c.loop-top.top) (corner ps (suc c.loop-top.top)) ≡ c.precedes_at.result
told c =
    let ps = points c.args.list.now in
    subst (λ (k : ℕ). precedes (corner ps c.loop-top.top) (corner ps k) ≡ c.precedes_at.result) (add-one c.loop-top.top)
    (sym c.precedes_at.ensures)

pub returns-then-not-precedes_at : goal.returns-then-not-precedes_at
returns-then-not-precedes_at c =
    record {
      within = omega (arith, c.count-last.ensures);
      rises = c.loop-top.invariant;
      falls = λ h. told c.before ∙ c.if-not-precedes_at.true;
    }

pub loop-top-preserved : goal.loop-top-preserved
loop-top-preserved c =
    let ps = points c.args.list.now in
    let rise = told c.before ∙ c.if-not-precedes_at.false in
    below_more (λ (k : ℕ). precedes (corner ps k) (corner ps (suc k)) ≡ true) c.loop-top.top c.loop-top.invariant rise

pub returns : goal.returns
returns c =
    record {
      within = omega (arith, c.count-last.ensures, c.requires);
      rises = λ k h. c.loop-top.invariant k (omega (arith, h));
      falls = λ h. absurd (omega (arith, c.count-last.ensures));
    }
