-- `turns_in` meets its contract: each test is one part of the condition.
use mathlib.Core.Path.{◌≡◌, sym, ◌∙◌, ap, ap₂}
use mathlib.Core.Bool.{true}
use Prim.Native.Nat.{ℕ, ◌<◌}
use native.Mathlib.Omega.{arith}
use mir.Syntax.{w64}
use mir.Val.{to_z, of_z}
use lib.IntN.{pos}
use lib.ListN.{length}
use lib.Signed.{lt_z}
use Rattle.integer.specs.Machine.{result-is}
use Rattle.plane.specs.Point.{Point, points}
use Rattle.plane.specs.Turn.{turn}
use Rattle.plane.specs.Shape.{next, precedes}
use Rattle.ring.specs.Ring.{previous, corner_of}
use Rattle.ring.specs.theory.Inward.{few-inside, turn_inside, first-inside, apart-inside, both-inside}
use Rattle.ring.proofs.inward.turns_in.Goals as goal
use Rattle.ring.proofs.inward.turns_in.Goals.{After-turn_at, Else-not-turn_at}

pub returns-then-n-lt3 : goal.returns-then-n-lt3
returns-then-n-lt3 c =
    sym (few-inside _ _ _ (omega (arith, c.if-n-lt3.true)))

pub turn_at-requires : goal.turn_at-requires
turn_at-requires c =
    let placed = c.requires.0 in (
      placed.below _ c.previous.ensures.upper_bound,
      placed.below _ c.requires.1,
      placed.below _ c.next.ensures.upper_bound,
      placed.near,
    )

-- past the first test there are three, and the turn is that of the corner
module _ (c : After-turn_at) where
  abbrev all : ℕ
  all = length c.args.places.now

  abbrev point : ℕ → Point
  point = corner_of (points c.args.list.now) c.args.places.now

  three : 2 < all
  three = omega (arith, c.if-n-lt3.false)

  before-is : c.previous.result ≡ previous all c.args.i
  before-is = c.previous.ensures.value

  after_is : c.next.result ≡ next all c.args.i
  after_is = c.next.ensures.value

  turned : to_z w64 (of_z w64 c.turn_at.result) ≡ turn (point (previous all c.args.i)) (point c.args.i)
      (point (next all c.args.i))
  turned = result-is w64 c.turn_at.type_inv (c.turn_at.ensures
      ∙ ap₂ (λ (a b : ℕ). turn (point a) (point c.args.i) (point b)) before-is after_is)

-- it turns left
left_there : (c : Else-not-turn_at) →
    let i = c.args.i in
    lt_z (pos 0) (turn (point (goal.at.Else-not-turn_at c).After-turn_at (previous (all (goal.at.Else-not-turn_at c).After-turn_at) i))
    (point (goal.at.Else-not-turn_at c).After-turn_at i)
    (point (goal.at.Else-not-turn_at c).After-turn_at (next (all (goal.at.Else-not-turn_at c).After-turn_at) i))) ≡ true
left_there c = sym (ap (lt_z (pos 0)) (turned (goal.at.Else-not-turn_at c).After-turn_at)) ∙ c.if-not-turn_at.false

pub returns-then-not-turn_at : goal.returns-then-not-turn_at
returns-then-not-turn_at c =
    sym (turn_inside _ _ _ (three (goal.at.returns-then-not-turn_at c).After-turn_at)
    (sym (ap (lt_z (pos 0)) (turned (goal.at.returns-then-not-turn_at c).After-turn_at)) ∙ c.if-not-turn_at.true))

pub returns-then-i-eq0 : goal.returns-then-i-eq0
returns-then-i-eq0 c =
    sym (first-inside _ _ _ (three (goal.at.returns-then-i-eq0 c).After-turn_at)
    (left_there (goal.at.returns-then-i-eq0 c).Else-not-turn_at) (omega (arith, c.if-i-eq0.true)))

pub precedes_at-requires : goal.precedes_at-requires
precedes_at-requires c =
    let placed = c.requires.0 in
    (placed.below _ c.requires.1, placed.below _ c.previous.ensures.upper_bound)

pub returns-then-not-precedes_at : goal.returns-then-not-precedes_at
returns-then-not-precedes_at c =
    let i = c.args.i in
    let told = ap (λ (k : ℕ). precedes (point (goal.at.returns-then-not-precedes_at c).After-turn_at i)
    (point (goal.at.returns-then-not-precedes_at c).After-turn_at k))
    (sym (before-is (goal.at.returns-then-not-precedes_at c).After-turn_at)) ∙ sym
    c.precedes_at.ensures
    ∙ c.if-not-precedes_at.true in
    sym (apart-inside _ _ _ (three (goal.at.returns-then-not-precedes_at c).After-turn_at)
    (left_there (goal.at.returns-then-not-precedes_at c).Else-not-turn_at) (omega (arith, c.if-i-eq0.false)) told)

pub precedes_at-requires-2 : goal.precedes_at-requires-2
precedes_at-requires-2 c =
    let placed = c.requires.0 in
    (placed.below _ c.requires.1, placed.below _ c.next.ensures.upper_bound)

pub returns : goal.returns
returns c =
    let i = c.args.i in
    let told = ap (λ (k : ℕ). precedes (point (goal.at.returns c).After-turn_at i) (point (goal.at.returns c).After-turn_at k))
    (sym (before-is (goal.at.returns c).After-turn_at)) ∙ sym c.precedes_at.ensures
    ∙ c.if-not-precedes_at.false in
    c.precedes_at-2.ensures ∙ ap
    (λ (k : ℕ). precedes (point (goal.at.returns c).After-turn_at i) (point (goal.at.returns c).After-turn_at k))
    (after_is (goal.at.returns c).After-turn_at)
    ∙ sym (both-inside _ _ _ (three (goal.at.returns c).After-turn_at) (left_there (goal.at.returns c).Else-not-turn_at)
    (omega (arith, c.if-i-eq0.false)) told)
