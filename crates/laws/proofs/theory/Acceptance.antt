-- A shape is made exactly where document 01 has no reason to refuse it.
--     made-accepted        of whatever good shapes are lent, what fits is answered
--     same-on              shapes on one floor are good together; `pair-accepted`: of them, what fits is answered
--     made-whole           where what is made is a valid shape: with room for it, it is the answer
--     origin-valid         the origin point is valid
--     valid-gives          what is answered with a valid shape gives it
use Rattle.std.specs.Prelude.{◌≡◌, refl, List, [], ◌∷◌, ℕ, ◌*◌, ◌≤◌, ℤ, pos, length}
use Rattle.std.proofs.Common.{sym, ◌∙◌, ap, subst, arith, le-ltb, take_at}
use Rattle.plane.specs.Limits.{max_corners, max_coordinate}
use Rattle.plane.specs.Point.{Point, numbers}
use Rattle.plane.specs.Reply.{answered, NoneApply}
use Rattle.plane.specs.Shape.{breaks, precedes}
use Rattle.plane.specs.Refusal.{InRange, Valid, bad_count, too_many, outside, some_outside, equal_pair, left_broken, rule_broken, bad_start}
use Rattle.plane.specs.Output.{no_room, overwritten}
use Rattle.plane.specs.Floor.{Floored, corners, Shapes, two_shapes, floor_of, Same, Admitted}
use Rattle.plane.specs.Question.{table, reply, written, makes}
use Rattle.plane.proofs.Meaning.{accepted-is-valid}
use Rattle.plane.proofs.theory.refusals.Asked.{asked-none, none-wrote, rest-none}
use Rattle.plane.proofs.theory.lists.Flat.{points-length, numbers-points}
use Rattle.plane.proofs.theory.refusals.Accept.{corners-few, in_range→near}
use Rattle.laws.specs.Grouping.{ShapeOn, answered_with, Gives, Fits}

module _ (s : Shapes) (shape : List Point) (out : List ℤ) (good : Admitted s) where
  fits→none : Fits shape out → NoneApply (table (makes s shape out))
  unfolding no_room
  fits→none f = rest-none (makes s shape out) good (
    corners-few shape f.few,
    (in_range→near (numbers shape) f.in_range, (le-ltb (length out) (length (numbers shape)) f.room, tt)),
  )

  pub made-accepted : Fits shape out → reply (makes s shape out) ≡ answered (pos (length shape) ∷ pos (floor_of s) ∷ [])
  made-accepted f = asked-none (makes s shape out) (fits→none f)

  pub made-whole : (t : Floored) → Valid t.list → t.floor ≡ floor_of s → corners t ≡ shape → length t.list ≤ length out
      → written (makes s shape out) ≡ answered_with t out
  made-whole t v floors e room =
      let same : numbers shape ≡ t.list = ap numbers (sym e) ∙ numbers-points t.list v.paired in
      let fits : Fits shape out = record {
        few = subst (λ ps. length ps ≤ max_corners) e v.few;
        in_range = subst InRange (sym same) v.in_range;
        room = rw same room;
      } in
      λ i. record {
        reply = (made-accepted fits ∙ λ j. answered (pos (length (sym e j)) ∷ pos (sym floors j) ∷ [])) i;
        output = (none-wrote (makes s shape out) (fits→none fits) ∙ ap (λ l. overwritten l out) same) i;
      }

-- ---- two shapes on one floor

pub same-on : {f : ℕ} {a b : Floored} → ShapeOn f a → ShapeOn f b → Same a b
same-on v w = record { first-valid = v.valid; second-valid = w.valid; one-floor = v.on_floor ∙ sym w.on_floor }

pub pair-accepted : (f : ℕ) (a b : Floored) (shape : List Point) (out : List ℤ) → ShapeOn f a → ShapeOn f b → Fits shape out
    → reply (makes (two_shapes a b) shape out) ≡ answered (pos (length shape) ∷ pos f ∷ [])
pair-accepted f a b shape out v w fits =
    made-accepted (two_shapes a b) shape out (same-on v w) fits ∙ ap (λ g. answered (pos (length shape) ∷ pos g ∷ [])) v.on_floor

-- ---- the origin point, and what is answered with a shape

pub origin-valid : Valid (pos 0 ∷ pos 0 ∷ [])
unfolding reply bad_count too_many outside some_outside equal_pair left_broken rule_broken bad_start breaks precedes max_corners
    max_coordinate
origin-valid = accepted-is-valid (pos 0 ∷ pos 0 ∷ []) 0 (pos 1 ∷ pos 0 ∷ []) refl

pub valid-gives : (s : Floored) (out : List ℤ) → Valid s.list → Gives (answered_with s out) s
unfolding overwritten
valid-gives s out v = record {
  count = length (corners s);
  answer = refl;
  counted = sym (take_at s.list _ (2 * length (corners s)) (omega (arith, points-length s.list, v.paired)));
}
