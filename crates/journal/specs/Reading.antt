-- Reading a name from the log (document 02, W5 and W11).
--     damaged rs, bad_place rs   some record is bad, and "the byte place of the first such record"
--     held n rs, latest n rs    some record has the name, and "The latest record of a name counts": its floor and its corners' numbers
--     ask_read b n out           refusals 15, 19 and 8 in this order; else the latest shape of the name at the front of the output, and
--                               its floor: "Answers carry the floor"
--     showing found out         the same, of what a name has
use Rattle.std.specs.Prelude.{Bool, false, not, cond, ◌||◌, List, [], ◌∷◌, ℕ, ◌+◌, eqb, length, ℤ}
use Rattle.plane.specs.Reply.{Row, row}
use Rattle.plane.specs.Output.{room_row}
use Rattle.plane.specs.Floor.{Floored, on, corners, no_shape}
use Rattle.plane.specs.Question.{Question, writes}
use Rattle.journal.specs.Format.{records, name, bad, content}

abbrev pub damaged : List (List ℕ) → Bool
damaged [] = false
damaged (r ∷ rs) = bad r || damaged rs

abbrev pub bad_place : List (List ℕ) → ℕ
bad_place [] = 0
bad_place (r ∷ rs) = let later = length r + bad_place rs in cond (bad r) 0 later

abbrev pub held : ℕ → List (List ℕ) → Bool
held n [] = false
held n (r ∷ rs) = eqb (name r) n || held n rs

-- what no record holds
abbrev pub nothing : Floored
nothing = on [] 0

abbrev pub latest : ℕ → List (List ℕ) → Floored
latest n [] = nothing
latest n (r ∷ rs) = let later = latest n rs in cond (held n rs) later (cond (eqb (name r) n) (content r) nothing)

-- 15: "refused 15 with the byte place of the first such record"
abbrev pub damage_row : List ℕ → Row
damage_row b = row 15 (damaged (records b)) (bad_place (records b) ∷ [])

-- 19: "Asking for a name that no record holds is refused 19, after 15 and before 8"
abbrev pub ask_read : List ℕ → ℕ → List ℤ → Question
ask_read b n out =
    let found = latest n (records b) in
    writes (no_shape found.floor)
    (damage_row b ∷ row 19 (not (held n (records b))) [] ∷ room_row (corners found) out ∷ []) (corners found) out

-- what is asked where no record is bad and a name has `found`: 19 if that is nothing, then 8. Our own, for what histories come to
abbrev pub showing : Floored → List ℤ → Question
showing found out =
    writes (no_shape found.floor) (row 19 (eqb (length found.list) 0) [] ∷ room_row (corners found) out ∷ []) (corners found) out
