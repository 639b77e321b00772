-- What document 02, W5 and W11, says of single records and logs, as tables over the definitions and one fact about all rows of each, by
-- computing.
use Rattle.std.specs.Prelude.{◌≡◌, refl, List, [], ◌∷◌, ◌++◌, map, ℕ, take, ℤ, pos, negsuc}
use Rattle.plane.specs.Limits.{max_corners, max_coordinate}
use Rattle.plane.specs.Shape.{breaks, precedes}
use Rattle.plane.specs.Reply.{Reply, answered, refused}
use Rattle.plane.specs.Refusal.{bad_count, too_many, outside, some_outside, equal_pair, left_broken, rule_broken, bad_start}
use Rattle.plane.specs.Output.{Written, no_room, overwritten}
use Rattle.plane.specs.Question.{reply, output, written}
use Rattle.endian.specs.Bytes.{pair, pair_at, word, word_at, words, words_at}
use Rattle.journal.specs.Format.{fixed_bytes, recorded_as, recorded, recorded_plain, size, whole, records, kind, name, floor, list}
use Rattle.journal.specs.Format.{wrong_length, other_kind, bad}
use Rattle.journal.specs.Reading.{ask_read}
use Rattle.journal.specs.Adding.{end, stores, add_reply, Added, added}
use Rattle.journal.specs.History.{fresh}

-- "Point 1 -1 named 7 is 0D 00 01 00 07 00 01 00 00 00 FF FF FF FF 5A"
abbrev pub example : List ℕ
example = 13 ∷ 0 ∷ 1 ∷ 0 ∷ 7 ∷ 0 ∷ 1 ∷ 0 ∷ 0 ∷ 0 ∷ 255 ∷ 255 ∷ 255 ∷ 255 ∷ 90 ∷ []

-- the same point on floor 2
abbrev pub floored : List ℕ
floored = 15 ∷ 0 ∷ 2 ∷ 0 ∷ 7 ∷ 0 ∷ 2 ∷ 0 ∷ 1 ∷ 0 ∷ 0 ∷ 0 ∷ 255 ∷ 255 ∷ 255 ∷ 255 ∷ 90 ∷ []

abbrev point : List ℤ
point = pos 1 ∷ negsuc 0 ∷ []

pub example-record : recorded_plain 7 point ≡ example
unfolding recorded_plain recorded_as fixed_bytes pair word words
example-record = refl

pub floored-record : recorded 7 2 point ≡ floored
unfolding recorded recorded_as fixed_bytes pair word words
floored-record = refl

-- ---- reading

-- the example without its last byte
abbrev torn : List ℕ
torn = 13 ∷ 0 ∷ 1 ∷ 0 ∷ 7 ∷ 0 ∷ 1 ∷ 0 ∷ 0 ∷ 0 ∷ 255 ∷ 255 ∷ 255 ∷ 255 ∷ []

-- the point 2 0 under the same name, of kind 1
abbrev again : List ℕ
again = 13 ∷ 0 ∷ 1 ∷ 0 ∷ 7 ∷ 0 ∷ 2 ∷ 0 ∷ 0 ∷ 0 ∷ 0 ∷ 0 ∷ 0 ∷ 0 ∷ 90 ∷ []

-- a whole record of length 1, which is a wrong one
abbrev tiny : List ℕ
tiny = 1 ∷ 0 ∷ 90 ∷ []

-- a whole record of another kind
abbrev other : List ℕ
other = 15 ∷ 0 ∷ 3 ∷ 0 ∷ 7 ∷ 0 ∷ 2 ∷ 0 ∷ 1 ∷ 0 ∷ 0 ∷ 0 ∷ 255 ∷ 255 ∷ 255 ∷ 255 ∷ 90 ∷ []

-- of kind 2 with a length of kind 1, of kind 1 with a length of kind 2, and of kind 2 with no bytes for its floor
abbrev short : List ℕ
short = 13 ∷ 0 ∷ 2 ∷ 0 ∷ 7 ∷ 0 ∷ 1 ∷ 0 ∷ 0 ∷ 0 ∷ 255 ∷ 255 ∷ 255 ∷ 255 ∷ 90 ∷ []

abbrev long : List ℕ
long = 15 ∷ 0 ∷ 1 ∷ 0 ∷ 7 ∷ 0 ∷ 2 ∷ 0 ∷ 1 ∷ 0 ∷ 0 ∷ 0 ∷ 255 ∷ 255 ∷ 255 ∷ 255 ∷ 90 ∷ []

abbrev bare : List ℕ
bare = 5 ∷ 0 ∷ 2 ∷ 0 ∷ 7 ∷ 0 ∷ 90 ∷ []

-- what is read, and what is stated
pub record Read : Type 0 where
  pub given : Written
  pub stated : Written

abbrev reads : List ℕ → ℕ → List ℤ → Reply → List ℤ → Read
reads b n old r new = record { given = written (ask_read b n old); stated = record { reply = r; output = new } }

abbrev zeros : List ℤ
zeros = pos 0 ∷ pos 0 ∷ pos 0 ∷ []

-- one corner, on this floor
abbrev corner : ℕ → Reply
corner f = answered (pos 1 ∷ pos f ∷ [])

abbrev pub readings : List Read
readings =
    -- read back, after it the log's end: fewer than two bytes, and length 0. "kind 1 still reads as floor 0"
    reads (example ++ (13 ∷ [])) 7 zeros (corner 0) (pos 1 ∷ negsuc 0 ∷ pos 0 ∷ [])
    ∷ reads (example ++ fresh 2) 7 zeros (corner 0) (pos 1 ∷ negsuc 0 ∷ pos 0 ∷ [])
    ∷ reads floored 7 zeros (corner 2) (pos 1 ∷ negsuc 0 ∷ pos 0 ∷ [])
    -- "a missing last byte ends the book", and so does "a record running past the end": no name is held, though 15 would follow
    ∷ reads (torn ++ (91 ∷ tiny)) 7 zeros (refused 19 []) zeros
    ∷ reads torn 7 zeros (refused 19 []) zeros
    -- "The latest record of a name counts": of two with the name 7, of whichever kinds
    ∷ reads (example ++ again) 7 zeros (corner 0) (pos 2 ∷ pos 0 ∷ pos 0 ∷ [])
    ∷ reads (again ++ floored) 7 zeros (corner 2) (pos 1 ∷ negsuc 0 ∷ pos 0 ∷ [])
    ∷ reads (floored ++ again) 7 zeros (corner 0) (pos 2 ∷ pos 0 ∷ pos 0 ∷ [])
    -- "refused 15 with the byte place of the first such record"; it comes before 19, and 19 before 8
    ∷ reads tiny 7 zeros (refused 15 (0 ∷ [])) zeros
    ∷ reads (example ++ (other ++ tiny)) 8 [] (refused 15 (15 ∷ [])) []
    ∷ reads (floored ++ short) 7 zeros (refused 15 (17 ∷ [])) zeros
    ∷ reads (floored ++ long) 7 zeros (refused 15 (17 ∷ [])) zeros
    ∷ reads bare 7 zeros (refused 15 (0 ∷ [])) zeros
    ∷ reads example 8 [] (refused 19 []) []
    ∷ reads floored 7 (pos 5 ∷ []) (refused 8 []) (pos 5 ∷ [])
    ∷ []

pub readings-hold : map (λ (r : Read). r.given) readings ≡ map (λ (r : Read). r.stated) readings
unfolding pair_at word_at words_at fixed_bytes size whole records kind name floor list wrong_length other_kind bad reply output bad_count
    too_many outside some_outside equal_pair left_broken rule_broken bad_start breaks precedes max_corners max_coordinate no_room
    overwritten
readings-hold = refl

-- ---- adding

-- what adding the point under the name 7 on floor 2 does, and what is stated
pub record Step : Type 0 where
  pub given : Added
  pub stated : Added

abbrev adds : List ℕ → ℕ → Reply → List ℕ → Step
adds b k r new = record { given = added b 7 2 point k; stated = record { reply = r; log = new } }

abbrev finished : Reply
finished = answered (pos 1 ∷ [])

abbrev cut : Reply
cut = answered (pos 0 ∷ [])

abbrev pub additions : List Step
additions =
    -- 16: one byte too few, also "after the last whole record", and just enough
    adds (fresh 16) 32 (refused 16 []) (fresh 16)
    ∷ adds (example ++ fresh 16) 62 (refused 16 []) (example ++ fresh 16)
    ∷ adds (fresh 17) 34 finished floored
    -- "writing uses kind 2", and a record of kind 1 stays as it is
    ∷ adds (example ++ fresh 17) 64 finished (example ++ floored)
    -- one store short of it: the last byte is missing
    ∷ adds (fresh 17) 16 cut (take 16 floored ++ (0 ∷ []))
    ∷ adds (fresh 17) 17 finished floored
    -- bytes after the end are tidied from the far end down, each that is not 0 by a store
    ∷ adds (4 ∷ 0 ∷ (fresh 15 ++ (3 ∷ 0 ∷ 90 ∷ []))) 2 cut (4 ∷ fresh 19)
    ∷ adds (4 ∷ 0 ∷ (fresh 15 ++ (3 ∷ 0 ∷ 90 ∷ []))) 4 cut (15 ∷ fresh 19)
    ∷ adds (4 ∷ 0 ∷ (fresh 15 ++ (3 ∷ 0 ∷ 90 ∷ []))) 20 finished (floored ++ fresh 3)
    -- 15 comes before 16
    ∷ adds tiny 6 (refused 15 (0 ∷ [])) tiny
    ∷ []

pub additions-hold : map (λ (s : Step). s.given) additions ≡ map (λ (s : Step). s.stated) additions
unfolding pair pair_at word words word_at words_at fixed_bytes recorded_as recorded size whole records kind name floor list wrong_length
    other_kind
    bad end stores add_reply added reply bad_count too_many outside some_outside equal_pair left_broken rule_broken bad_start breaks
    precedes
    max_corners max_coordinate
additions-hold = refl
