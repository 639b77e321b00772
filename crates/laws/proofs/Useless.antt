-- The four useless builds (document 01, "How tight the words are drawn"): none of them keeps the promise of a sum.
--     Promised call      what a sum promises: answer and whole output are those of the definition
--     square, triangle   01's S and T, whose sum has five corners, here on floor 3; room: a lent output of twelve numbers
-- That every sum which fits is answered is `fitting-sum` of `Laws.antt`.
use Rattle.std.specs.Prelude.{◌≡◌, refl, List, [], ◌∷◌, ℕ, ℤ, pos, length, take}
use Rattle.std.proofs.Common.{sym, ◌∙◌, ap, arith}
use Rattle.plane.specs.Limits.{max_corners, max_coordinate}
use Rattle.plane.specs.Point.{same_point}
use Rattle.plane.specs.Turn.{turn}
use Rattle.plane.specs.Shape.{breaks, precedes}
use Rattle.plane.specs.Reply.{answered, refused}
use Rattle.plane.specs.Refusal.{bad_count, too_many, outside, some_outside, equal_pair, left_broken, breaking_edge, breaking_corner}
use Rattle.plane.specs.Refusal.{rule_broken}
use Rattle.plane.specs.Refusal.{broken_edge, broken_corner, bad_start}
use Rattle.plane.specs.Corner.{shape_of, sums}
use Rattle.plane.specs.Output.{Written, no_room, overwritten}
use Rattle.plane.specs.Floor.{Floored, on, corners}
use Rattle.plane.specs.Question.{reply, output}
use Rattle.laws.specs.Grouping.{Call, sum_call, Gives, origin_point}
use Rattle.laws.proofs.Laws.{answered-sum}

-- "the promise is an equation with its definition"
abbrev pub Promised : Call → Type 0
Promised call = (a b : Floored) (out : List ℤ) → call a b out ≡ sum_call a b out

abbrev pub square : Floored
square = on (pos 0 ∷ pos 0 ∷ pos 2 ∷ pos 0 ∷ pos 2 ∷ pos 2 ∷ pos 0 ∷ pos 2 ∷ []) 3

abbrev pub triangle : Floored
triangle = on (pos 0 ∷ pos 0 ∷ pos 1 ∷ pos 0 ∷ pos 0 ∷ pos 1 ∷ []) 3

abbrev pub room : List ℤ
room = pos 7 ∷ pos 7 ∷ pos 7 ∷ pos 7 ∷ pos 7 ∷ pos 7 ∷ pos 7 ∷ pos 7 ∷ pos 7 ∷ pos 7 ∷ pos 7 ∷ pos 7 ∷ []

-- "5 corners, 0 0 3 0 3 2 2 3 0 3", and their floor; after them the output as it was
abbrev pub five_corners : Written
five_corners = record {
  reply = answered (pos 5 ∷ pos 3 ∷ []);
  output = pos 0 ∷ pos 0 ∷ pos 3 ∷ pos 0 ∷ pos 3 ∷ pos 2 ∷ pos 2 ∷ pos 3 ∷ pos 0 ∷ pos 3 ∷ pos 7 ∷ pos 7 ∷ [];
}

pub square-plus-triangle : sum_call square triangle room ≡ five_corners
unfolding reply output shape_of overwritten no_room max_corners max_coordinate turn breaks precedes same_point
    bad_count too_many outside some_outside equal_pair left_broken breaking_edge breaking_corner rule_broken broken_edge broken_corner
    bad_start
square-plus-triangle = refl

module _ (call : Call) (promised : Promised call) where
  five : call square triangle room ≡ five_corners
  five = promised square triangle room ∙ square-plus-triangle

  -- "Refusing everything fails demand 2's acceptance and the table's "exactly""
  pub refusing-everything-fails : ((a b : Floored) (out : List ℤ)
      → (n : ℕ) × (carried : List ℕ) × ((call a b out).reply ≡ refused n carried)) → ⊥
  refusing-everything-fails f =
      let r = f square triangle room in
      let z : ◌≡◌ {A = ℕ} 0 1 = cc (r.2, ap (λ (w : Written). w.reply) five) in omega arith

  -- "Giving the origin point for every sum satisfies some laws of demand 3 but fails demand 2"
  pub origin-for-every-sum-fails : ((a b : Floored) (out : List ℤ) (s : Floored) → Gives (call a b out) s → s ≡ origin_point s.floor) → ⊥
  origin-for-every-sum-fails f =
      let g : Gives (call square triangle room) (on (take 10 five_corners.output) 3) = record {
        count = 5;
        answer = ap (λ (w : Written). w.reply) five;
        counted = ap (λ (w : Written). take 10 w.output) (sym five);
      } in
      let z : ◌≡◌ {A = ℕ} 0 1 = cc (ap (λ (s : Floored). s.list) (f square triangle room _ g)) in omega arith

  -- "Leaving the output alone fails the written numbers"
  pub leaving-output-alone-fails : ((a b : Floored) (out : List ℤ) → (call a b out).output ≡ out) → ⊥
  leaving-output-alone-fails f =
      let z : ◌≡◌ {A = ℕ} 0 7 = cc (f square triangle room, ap (λ (w : Written). w.output) five) in omega arith

  -- "A made-up corner count fails because it is the count of the defined list"
  pub made-up-count-fails : (a b : Floored) (out v : List ℤ) → (call a b out).reply ≡ answered v
      → v ≡ pos (length (shape_of (sums (corners a) (corners b)))) ∷ pos a.floor ∷ []
  made-up-count-fails a b out v h = (answered-sum a b out v (rw promised at h)).0
