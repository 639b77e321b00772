-- Document 01's number and values for each case of the answers on a sum in parts.
--     of_begun r, of_part r     the walk's numbers, a part's count before them, the floor last; or a refusal
use Rattle.std.specs.Prelude.{◌∷◌, pos, Result}
use Rattle.plane.specs.Reply.{Reply}
use Rattle.parts.specs.Part.{walk_numbers}
use Rattle.admission.specs.Answer.{on_floor}
use Rattle.admission.specs.declared.answer.Refusal.{Refusal}
use Rattle.admission.specs.declared.answer.OnFloor.{OnFloor}
use Rattle.part_questions.specs.Walk.{state_of}
use Rattle.part_questions.specs.declared.walk.Walk.{Walk}
use Rattle.part_questions.specs.declared.answer.Part.{Part}

-- the edges passed of either shape, and 1 if the walk is over; a part has before them the count of its corners
abbrev pub of_begun : Result (OnFloor Walk) Refusal → Reply
of_begun r = on_floor (λ w. walk_numbers (state_of w)) r

abbrev pub of_part : Result (OnFloor Part) Refusal → Reply
of_part r = on_floor (λ p. pos p.count ∷ walk_numbers (state_of p.walk)) r
