-- What has happened to a log (document 02, W5: "From a new book, under any additions and any cuts after any store"; W11).
--     Addition           a name, a floor, a list of numbers, which may be no shape, and the most stores that it may make
--     fresh m            a new log: "all zero when new"
--     step h b           the reply and the log after one addition; `after hs b` the log after these, the earliest first
--     finishes h b n     the addition h to the log b is one of the name n, and finishes
--     last_since found n hs b    floor and list of the last addition of the name that finished; `found` where none did
--     last_finished n hs b       the same, and nothing where none did
use Rattle.std.specs.Prelude.{Bool, false, cond, ◌&&◌, List, [], ◌∷◌, ℕ, ◌<◌, eqb, replicate, ℤ, pos, negsuc}
use Rattle.plane.specs.Reply.{Reply, answered, refused}
use Rattle.plane.specs.Floor.{Floored, on}
use Rattle.journal.specs.Reading.{nothing}
use Rattle.journal.specs.Adding.{Added, added}

pub record Addition : Type 0 where
  pub name : ℕ
  pub name-fits : name < 65536
  pub floor : ℕ
  pub floor-fits : floor < 65536
  pub list : List ℤ
  pub allowed : ℕ

abbrev pub fresh : ℕ → List ℕ
fresh m = replicate m 0

abbrev pub step : Addition → List ℕ → Added
step h b = added b h.name h.floor h.list h.allowed

abbrev pub after : List Addition → List ℕ → List ℕ
after [] b = b
after (h ∷ hs) b = after hs (step h b).log

-- the reply of an addition that finished
abbrev pub is_finished : Reply → Bool
is_finished (answered []) = false
is_finished (answered (pos m ∷ ns)) = eqb m 1
is_finished (answered (negsuc m ∷ ns)) = false
is_finished (refused m c) = false

abbrev pub finishes : Addition → List ℕ → ℕ → Bool
finishes h b n = eqb h.name n && is_finished (step h b).reply

abbrev pub last_since : Floored → ℕ → List Addition → List ℕ → Floored
last_since found n [] b = found
last_since found n (h ∷ hs) b = last_since (cond (finishes h b n) (on h.list h.floor) found) n hs (step h b).log

abbrev pub last_finished : ℕ → List Addition → List ℕ → Floored
last_finished n hs b = last_since nothing n hs b
