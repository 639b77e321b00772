-- Document 01's number and values for each case of the enums ("Where an answer is an enum ..").
--     of_refusal r     the number of the table's row, and what it carries: 1 to 5 the shape, 4 also the edge and the corner; of a
--                     log the byte place of the record
--     on_floor values r  the reply of a question on shapes: its values, and the floor after them, or a refusal
--     of_answer r      the reply of a question that judges or writes a shape: how many corners, and the floor, or a refusal
-- Refusals with the same reply are the same: `refusal-known` of `Meaning.antt`.
use Rattle.std.specs.Prelude.{List, [], ◌∷◌, ◌++◌, ℕ, ℤ, pos, Result, Ok, Err}
use Rattle.plane.specs.Reply.{Reply, answered, refused}
use Rattle.admission.specs.declared.answer.Refusal.{Refusal}
use Rattle.admission.specs.declared.answer.OnFloor.{OnFloor}

abbrev pub of_refusal : Refusal → Reply
of_refusal (Refusal.Count shape) = refused 1 (shape ∷ [])
of_refusal (Refusal.Corners shape) = refused 2 (shape ∷ [])
of_refusal (Refusal.Range shape) = refused 3 (shape ∷ [])
of_refusal (Refusal.Side shape edge corner) = refused 4 (shape ∷ edge ∷ corner ∷ [])
of_refusal (Refusal.Start shape) = refused 5 (shape ∷ [])
of_refusal Refusal.LargeAnswer = refused 6 []
of_refusal Refusal.FarAnswer = refused 7 []
of_refusal Refusal.Room = refused 8 []
of_refusal Refusal.NotApart = refused 9 []
of_refusal Refusal.Flat = refused 10 []
of_refusal Refusal.Direction = refused 11 []
of_refusal Refusal.NotPrimitive = refused 12 []
of_refusal Refusal.Floors = refused 13 []
of_refusal Refusal.NotAPlace = refused 14 []
of_refusal (Refusal.Damaged place) = refused 15 (place ∷ [])
of_refusal Refusal.Full = refused 16 []
of_refusal Refusal.NoRecord = refused 19 []
of_refusal Refusal.TooFew = refused 20 []

abbrev pub on_floor : {T : Type 0} → (T → List ℤ) → Result (OnFloor T) Refusal → Reply
on_floor values (Ok a) = answered (values a.answer ++ (pos a.floor ∷ []))
on_floor values (Err r) = of_refusal r

abbrev pub of_answer : Result (OnFloor ℕ) Refusal → Reply
of_answer r = on_floor (λ n. pos n ∷ []) r
