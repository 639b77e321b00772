-- The four calls on bytes and numbers (document 02, W14: "with the same refusals", "on plain bytes and numbers, corners being four-byte
-- little-endian"): each is a question about the lists that the bytes hold. A floor is any number: "one above 65,535 being refused 13 with
-- the same place in the order".
--     words_in bs           as many four-byte numbers as there are; up to three bytes at the end belong to none
--     list_of bs            these numbers; none if the count of bytes is "no multiple of four", since an empty list is refused 1
--     ask_judge_bytes a f, ask_relation_bytes a f b g            judging; how two shapes are to each other
--     ask_sum_bytes a f b g out, ask_merge_bytes a f b g out     a shape made of two; the output is asked about as the numbers that it
-- holds
--     bytes_after q out     the whole output bytes afterwards
-- What it means: `Meaning.antt`, and there `room-in-bytes`, `refused-leaves-bytes`, `answered-writes-bytes`.
use Rattle.std.specs.Prelude.{cond, List, [], ℕ, ◌/◌, ◌%◌, eqb, ℤ, length}
use Rattle.plane.specs.Point.{numbers}
use Rattle.plane.specs.Output.{overwritten, unless_refused}
use Rattle.plane.specs.Floor.{on}
use Rattle.plane.specs.Question.{Question, table, ask_judge, ask_relation, ask_sum, ask_merge}
use Rattle.endian.specs.Bytes.{words, words_at}
use Rattle.crossing.specs.LowFloor.{low_floor}

abbrev pub words_in : List ℕ → List ℤ
words_in bs = words_at (length bs / 4) bs 0

unfoldable pub list_of : List ℕ → List ℤ
list_of bs = cond (eqb (length bs % 4) 0) (words_in bs) []

abbrev pub ask_judge_bytes : List ℕ → ℕ → Question
ask_judge_bytes a f = low_floor (ask_judge (on (list_of a) f))

abbrev pub ask_relation_bytes : List ℕ → ℕ → List ℕ → ℕ → Question
ask_relation_bytes a f b g = low_floor (ask_relation (on (list_of a) f) (on (list_of b) g))

abbrev pub ask_sum_bytes : List ℕ → ℕ → List ℕ → ℕ → List ℕ → Question
ask_sum_bytes a f b g out = low_floor (ask_sum (on (list_of a) f) (on (list_of b) g) (words_in out))

abbrev pub ask_merge_bytes : List ℕ → ℕ → List ℕ → ℕ → List ℕ → Question
ask_merge_bytes a f b g out = low_floor (ask_merge (on (list_of a) f) (on (list_of b) g) (words_in out))

-- "The output is untouched on refusal. On success only its first numbers are written": as `output` says it of numbers
unfoldable pub bytes_after : Question → List ℕ → List ℕ
bytes_after q out = unless_refused (table q) out (overwritten (words (numbers q.shape)) out)
