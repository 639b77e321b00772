-- The records of the log (document 02, W5 and W11: the floor book), each the list of its bytes.
--     recorded n f l      a list under a name on a floor: "Book kind 2 puts a two-byte floor after the name .., and writing uses kind 2"
--     recorded_plain n l   a record of kind 1, which says no floor, as W5 has it
--     whole t         a whole record is at the front of t: "Length 0, fewer than two bytes left, a record running past the end, or a
--                     missing last byte ends the book"
--     walked k t      the whole records at the front of t, k at most; `records b` all of them: each has a byte, so the count is enough
--     size, kind, name, floor, list   what a record says: its length field, its kind, its name, its floor, its corners' numbers
--     content r       the list of a record, on its floor
--     bad r           "A whole record of another kind or a wrong length, or one whose corners are no shape"; "another kind is now one
--                     other than 1 and 2"
use Rattle.std.specs.Prelude.{Bool, true, false, not, cond, ◌&&◌, ◌||◌, List, [], ◌∷◌, ◌++◌, ℕ, zero, suc, ◌+◌, ◌*◌, ◌-◌, ◌/◌, ◌%◌, eqb}
use Rattle.std.specs.Prelude.{leb, ltb, length, get_or, take, drop, ℤ}
use Rattle.plane.specs.Reply.{Reply, answered, refused}
use Rattle.plane.specs.Floor.{Floored, on}
use Rattle.plane.specs.Question.{reply, ask_judge}
use Rattle.endian.specs.Bytes.{pair, pair_at, words, words_at}

abbrev pub last_byte : ℕ
last_byte = 90

-- what the length counts besides the corners: kind, name and last byte, and in a record of kind 2 the floor
unfoldable pub fixed_bytes : ℕ → ℕ
fixed_bytes k = cond (eqb k 2) 7 5

-- W5: "Record: two-byte length of what follows it, two-byte kind .., two-byte name, the corners as four-byte two's-complement numbers, and
-- a last byte 0x5A"; here of the kind k, with the bytes e after the name
unfoldable pub recorded_as : ℕ → ℕ → List ℕ → List ℤ → List ℕ
recorded_as k n e l = pair (fixed_bytes k + 4 * length l) ++ (pair k ++ (pair n ++ (e ++ (words l ++ (last_byte ∷ [])))))

-- W11: "Book kind 2 puts a two-byte floor after the name"
unfoldable pub recorded : ℕ → ℕ → List ℤ → List ℕ
recorded n f l = recorded_as 2 n (pair f) l

-- kind 1 puts nothing there
unfoldable pub recorded_plain : ℕ → List ℤ → List ℕ
recorded_plain n l = recorded_as 1 n [] l

unfoldable pub size : List ℕ → ℕ
size t = pair_at t 0

unfoldable pub whole : List ℕ → Bool
whole t = (leb 2 (length t) && not (eqb (size t) 0)) && (leb (2 + size t) (length t) && eqb (get_or t (1 + size t) 0) last_byte)

abbrev pub walked : ℕ → List ℕ → List (List ℕ)
walked zero t = []
walked (suc k) t = let rest = walked k (drop (2 + size t) t) in cond (whole t) (take (2 + size t) t ∷ rest) []

unfoldable pub records : List ℕ → List (List ℕ)
records b = walked (length b) b

unfoldable pub kind : List ℕ → ℕ
kind r = pair_at r 2

unfoldable pub name : List ℕ → ℕ
name r = pair_at r 4

-- W11: "kind 1 still reads as floor 0"
unfoldable pub floor : List ℕ → ℕ
floor r = cond (eqb (kind r) 2) (pair_at r 6) 0

-- before the corners come the two bytes of the length and all other bytes but the last
unfoldable pub list : List ℕ → List ℤ
list r = words_at ((size r - fixed_bytes (kind r)) / 4) r (1 + fixed_bytes (kind r))

-- the shape that a record holds, with its floor
abbrev pub content : List ℕ → Floored
content r = on (list r) (floor r)

-- what judging says of a list, on whichever floor
abbrev pub judged : List ℤ → Reply
judged l = reply (ask_judge (on l 0))

-- judging answers, and does not refuse
abbrev pub is_answer : Reply → Bool
is_answer (answered ns) = true
is_answer (refused n c) = false

-- a corner has eight bytes
unfoldable pub wrong_length : List ℕ → Bool
wrong_length r = ltb (size r) (fixed_bytes (kind r)) || not (eqb ((size r - fixed_bytes (kind r)) % 8) 0)

-- W11: "another kind is now one other than 1 and 2"
unfoldable pub other_kind : ℕ → Bool
other_kind k = not (eqb k 1 || eqb k 2)

unfoldable pub bad : List ℕ → Bool
bad r = wrong_length r || (other_kind (kind r) || not (is_answer (judged (list r))))
