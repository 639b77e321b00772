-- `write` meets its contract: nothing is to write, or there is no room, or the walk writes the part.
use mathlib.Core.Path.{◌≡◌, sym, ◌∙◌, ap, subst}
use mathlib.Core.Bool.{Bool, true, false}
use mathlib.Core.List.{List}
use mathlib.Core.Logic.{◌⊎◌, inl, inr}
use Prim.Native.Nat.{◌*◌, ◌≤◌}
use native.Mathlib.Omega.{arith}
use lib.ListN.{length}
use Rattle.plane.specs.Point.{Point, numbers}
use Rattle.plane.specs.Floor.{Floored, on}
use Rattle.plane.specs.Output.{overwritten}
use Rattle.calipers.specs.Walk.{At}
use Rattle.sums.specs.Advance.{state, next_corners, Advanced}
use Rattle.parts.specs.Part.{part_corners}
use Rattle.sums.specs.theory.Reached.{place-standing}
use Rattle.parts.proofs.theory.Parts.{part-remaining, part-advanced}
use Rattle.part_questions.specs.Walk.{state_of}
use Rattle.part_questions.specs.theory.Parts.{part-little-room, part-done, part-idle}
use Rattle.part_questions.proofs.walk.Walk.write.Goals as goal
use Rattle.part_questions.proofs.walk.Walk.write.Goals.{Else-not-has_room, Else-self, Start, then-self-via-then-self}
use Rattle.part_questions.proofs.walk.Walk.write.Goals.{then-self-via-else-self+then-k-eq0}

-- the two shapes
abbrev one : Start → Floored
one c = on c.args.a.now c.args.f

abbrev other : Start → Floored
other c = on c.args.b.now c.args.g

-- the walk is not over: it is at a place
standing : (c : Else-self) → let args = c.args in
    At args.a.now args.b.now (state args.self.first args.self.second false)
standing c =
    let args = c.args in
    let self = args.self in
    let both = c.requires.0 in
    subst (λ (o : Bool). At args.a.now args.b.now (state self.first self.second o)) c.if-self.false
    (place-standing args.a.now args.b.now both.first-valid both.second-valid (state_of self) c.requires.1)

-- its next corners are those of the part
due : (c : Else-self) → let args = c.args in
    next_corners args.a.now args.b.now (state args.self.first args.self.second false) args.k
    ≡ part_corners args.a.now args.b.now (state_of args.self) args.k
due c =
    let args = c.args in
    let self = args.self in
    ap (λ (o : Bool). next_corners args.a.now args.b.now (state self.first self.second o) args.k) (sym c.if-self.false)
    ∙ sym (part-remaining args.a.now args.b.now c.requires.0.first-valid c.requires.0.second-valid (state_of self) args.k
    c.requires.1)

-- it is over, or no corner is asked for: nothing is written
pub returns-then-self : goal.returns-then-self
returns-then-self c =
    let start = (goal.at.returns-then-self c).Start in
    let none : (c.args.self.over ≡ true) ⊎ (c.args.k ≡ 0) = elim c.then-self.branch [
      | then-self-via-then-self w ↦ inl w.if-self.true
      | then-self-via-else-self+then-k-eq0 w ↦ inr w.if-k-eq0.true
    ] in
    part-idle (one start) (other start) (state_of c.args.self) c.args.k c.args.out.now c.requires.0 c.requires.1 c.requires.2 none

pub has_room-requires : goal.has_room-requires
has_room-requires c = (standing c.before, omega (arith, c.if-k-eq0.false))

pub returns-then-not-has_room : goal.returns-then-not-has_room
returns-then-not-has_room c =
    part-little-room (one c.before.before.before.before) (other c.before.before.before.before) (state_of c.args.self) c.args.k
    c.args.out.now
    c.requires.0 c.requires.1 c.requires.2 (ap length (due c.before.before.before))
    (c.has_room.ensures.1 (c.if-not-has_room.true))

-- there is room
room : (c : Else-not-has_room) → let args = c.args in
    2 * length (next_corners args.a.now args.b.now (state args.self.first args.self.second false) args.k)
    ≤ length args.out.now
room c = c.has_room.ensures.0 (c.if-not-has_room.false)

pub walk_on-went-requires : goal.walk_on-went-requires
walk_on-went-requires c =
    (standing c.before.before.before.before, omega (arith, c.if-k-eq0.false), room c.before)

pub returns : goal.returns
returns c =
    let args = c.args in
    let self = args.self in
    let both = c.requires.0 in
    let due-is = due c.before.before.before.before.before.before in
    let went = part-advanced args.a.now args.b.now both.first-valid both.second-valid (state_of self) args.k c.requires.1
    (subst (λ (o : Bool). Advanced args.a.now args.b.now (state self.first self.second o) args.k
    c.walk_on-went.result) (sym c.if-self.false) c.walk_on-went.ensures.0) in
    part-done (one c.before.before.before.before.before.before.before) (other c.before.before.before.before.before.before.before)
    (state_of self) args.k args.out.now both c.requires.1 c.requires.2 went.0
    (omega (arith, went.0, ap length due-is, room c.before.before.before)) went.1
    (c.walk_on-went.ensures.1 ∙ ap (λ (ps : List Point). overwritten (numbers ps) args.out.now) due-is)
