-- The current shapes of a log: what its names read as now (document 02, W5: "The latest record of a name counts"). Our own, for questions
-- over all of them.
--     current rs          the latest record of every name, in the log's order
--     is_other but r       the record has another name than `but`, a name to leave out; 65,536 is nobody's
--     around f but rs     the current records on floor f but that one. The latest comes first, then the floor: a shape that moved to
--                         another floor is no longer here
--     too_few_row n rs      20, ours: there are fewer than n shapes
--     ask_entry b k out    the current shape at position k: its name with its corners and floor; refused 15, 20 and 8
--     with_name n r        the reply r of a reading, with the name after the count of corners
use Rattle.std.specs.Prelude.{Bool, not, cond, ◌&&◌, List, [], ◌∷◌, ℕ, ◌+◌, eqb, ltb, length, get_or, ℤ, pos}
use Rattle.plane.specs.Reply.{Reply, answered, refused, Row, row}
use Rattle.plane.specs.Output.{room_row}
use Rattle.plane.specs.Floor.{corners, no_shape}
use Rattle.plane.specs.Question.{Question}
use Rattle.journal.specs.Format.{records, name, floor, content}
use Rattle.journal.specs.Reading.{held, damage_row}

abbrev pub current : List (List ℕ) → List (List ℕ)
current [] = []
current (r ∷ rs) = let later = current rs in cond (held (name r) rs) later (r ∷ later)

-- those that pass a test
abbrev pub keep : {X : Type 0} → (X → Bool) → List X → List X
keep p [] = []
keep p (x ∷ xs) = let later = keep p xs in cond (p x) (x ∷ later) later

unfoldable pub is_other : ℕ → List ℕ → Bool
is_other but r = not (eqb (name r) but)

unfoldable pub is_around : ℕ → ℕ → List ℕ → Bool
is_around f but r = eqb (floor r) f && is_other but r

unfoldable pub around : ℕ → ℕ → List (List ℕ) → List (List ℕ)
around f but rs = keep (is_around f but) (current rs)

abbrev pub too_few_row : ℕ → List (List ℕ) → Row
too_few_row n rs = row 20 (ltb (length rs) n) []

abbrev pub ask_entry : List ℕ → ℕ → List ℤ → Question
ask_entry b k out =
    let rs = current (records b) in
    let r = get_or rs k [] in
    let shape = corners (content r) in
    record {
      shapes = no_shape (floor r);
      rest = damage_row b ∷ too_few_row (1 + k) rs ∷ room_row shape out ∷ [];
      answer = pos (length shape) ∷ pos (name r) ∷ [];
      shape = shape;
      lent = out;
    }

-- for what it means: `entry-is-read` of `Meaning.antt`
abbrev pub with_name : ℕ → Reply → Reply
with_name n (answered []) = answered []
with_name n (answered (v ∷ vs)) = answered (v ∷ pos n ∷ vs)
with_name n (refused m c) = refused m c
