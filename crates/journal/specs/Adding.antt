-- Adding a shape to the log (document 02, W5 and W11): which bytes are stored, and in which order.
--     Store             one byte and its place: "Stores are single bytes, tidying of a torn end included"
--     end b             where the last whole record ends
--     clears p t        tidying: a 0 for every byte of t that is not 0, t standing at place p, from the far end down
--     writes p r        the record's bytes, at place p, from its first byte up: the last byte 0x5A is the last store
--     stores b r        all stores of an addition, in their order; `made ss b` the bytes after the stores ss
--     added b n f l k   the reply and the whole log after an addition that may make k stores: 1 finished, 0 cut, and no floor, since
--                       it answers no shape. "one that runs out is a cut, and no refusal"; "A refused addition stores nothing"
use Rattle.std.specs.Prelude.{cond, List, [], ◌∷◌, ◌++◌, ℕ, ◌+◌, ◌-◌, eqb, leb, ltb, length, take, drop, set, ℤ, pos}
use Rattle.plane.specs.Reply.{Reply, answered, refused, Row, row, first_row}
use Rattle.plane.specs.Refusal.{shape_rows}
use Rattle.journal.specs.Format.{recorded, records}
use Rattle.journal.specs.Reading.{damage_row}

pub record Store : Type 0 where
  pub place : ℕ
  pub byte : ℕ

abbrev pub store : ℕ → ℕ → Store
store p x = record { place = p; byte = x }

abbrev pub joined : List (List ℕ) → List ℕ
joined [] = []
joined (r ∷ rs) = r ++ joined rs

unfoldable pub end : List ℕ → ℕ
end b = length (joined (records b))

abbrev pub clears : ℕ → List ℕ → List Store
clears p [] = []
clears p (x ∷ t) = clears (1 + p) t ++ cond (eqb x 0) [] (store p 0 ∷ [])

abbrev pub writes : ℕ → List ℕ → List Store
writes p [] = []
writes p (x ∷ r) = store p x ∷ writes (1 + p) r

unfoldable pub stores : List ℕ → List ℕ → List Store
stores b r = clears (end b) (drop (end b) b) ++ writes (end b) r

abbrev pub made : List Store → List ℕ → List ℕ
made [] b = b
made (s ∷ ss) b = made ss (set b s.place s.byte)

-- 16: "exactly when the room after the last whole record is too short, after 1 to 5 and 15"
abbrev pub add_rows : List ℕ → ℕ → ℕ → List ℤ → List Row
add_rows b n f l =
    shape_rows 1 l ++ (damage_row b ∷ row 16 (ltb (length b - end b) (length (recorded n f l))) [] ∷ [])

unfoldable pub add_reply : List ℕ → ℕ → ℕ → List ℤ → ℕ → Reply
add_reply b n f l k =
    first_row (add_rows b n f l) (answered (cond (leb (length (stores b (recorded n f l))) k) (pos 1) (pos 0) ∷ []))

-- the old log on a refusal
abbrev pub unless_refusal : Reply → List ℕ → List ℕ → List ℕ
unless_refusal (answered ns) old new = new
unless_refusal (refused m c) old new = old

pub record Added : Type 0 where
  pub reply : Reply
  pub log : List ℕ

unfoldable pub added : List ℕ → ℕ → ℕ → List ℤ → ℕ → Added
added b n f l k = record {
  reply = add_reply b n f l k;
  log = unless_refusal (add_reply b n f l k) b (made (take k (stores b (recorded n f l))) b);
}
