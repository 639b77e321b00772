-- Single packings, as a table over the definitions and one fact about all its rows, by computing.
use Rattle.std.specs.Prelude.{◌≡◌, refl, List, [], ◌∷◌, ◌++◌, map, ℕ, pos}
use Rattle.plane.specs.Limits.{max_corners, max_coordinate}
use Rattle.plane.specs.Shape.{breaks, precedes}
use Rattle.plane.specs.Reply.{Reply, answered, refused}
use Rattle.plane.specs.Refusal.{bad_count, too_many, outside, some_outside, equal_pair, left_broken, rule_broken, bad_start}
use Rattle.plane.specs.Question.{reply}
use Rattle.endian.specs.Bytes.{pair_at, word_at, words_at}
use Rattle.journal.specs.Format.{fixed_bytes, size, whole, records, kind, name, floor, list, wrong_length, other_kind, bad}
use Rattle.journal.specs.Current.{is_other}
use Rattle.journal.specs.Adding.{Added}
use Rattle.journal.specs.History.{fresh}
use Rattle.packing.specs.Packing.{packed, wanted, mends_all, pack_reply, remade}

-- the point x 0 under the name n, of kind 1
abbrev pub pointed : ℕ → ℕ → List ℕ
pointed n x = 13 ∷ 0 ∷ 1 ∷ 0 ∷ n ∷ 0 ∷ x ∷ 0 ∷ 0 ∷ 0 ∷ 0 ∷ 0 ∷ 0 ∷ 0 ∷ 90 ∷ []

-- a whole record of length 1, which is a wrong one
abbrev tiny : List ℕ
tiny = 1 ∷ 0 ∷ 90 ∷ []

-- the names 7, 8 and 7 again, and bytes that are torn
abbrev book : List ℕ
book = pointed 7 1 ++ (pointed 8 2 ++ (pointed 7 3 ++ (13 ∷ 0 ∷ 1 ∷ [])))

abbrev nobody : ℕ
nobody = 65536

-- what a packing does, and what is stated
pub record Step : Type 0 where
  pub given : Added
  pub stated : Added

abbrev packs : List ℕ → ℕ → List ℕ → ℕ → Reply → List ℕ → Step
packs b but t k r new = record { given = remade b but t k; stated = record { reply = r; log = new } }

abbrev finished : Reply
finished = answered (pos 1 ∷ [])

abbrev cut : Reply
cut = answered (pos 0 ∷ [])

abbrev pub packings : List Step
packings =
    -- the current records in their order, without the torn end; zeros after them
    packs book nobody (fresh 32) 32 finished (pointed 8 2 ++ (pointed 7 3 ++ fresh 2))
    ∷ packs book nobody (pointed 8 2 ++ (pointed 7 3 ++ (4 ∷ 5 ∷ []))) 2 finished (pointed 8 2 ++ (pointed 7 3 ++ fresh 2))
    -- a name is left out
    ∷ packs book 7 (fresh 15) 5 finished (pointed 8 2)
    ∷ packs book 8 (fresh 15) 5 finished (pointed 7 3)
    -- five bytes differ: a packing that may store fewer is cut, and goes on where it was cut
    ∷ packs book 8 (fresh 15) 4 cut (13 ∷ 0 ∷ 1 ∷ 0 ∷ 7 ∷ 0 ∷ 3 ∷ fresh 8)
    ∷ packs book 8 (13 ∷ 0 ∷ 1 ∷ 0 ∷ 7 ∷ 0 ∷ 3 ∷ fresh 8) 1 finished (pointed 7 3)
    -- a run that is packed already needs no store
    ∷ packs book 8 (pointed 7 3) 0 finished (pointed 7 3)
    ∷ packs book 8 (pointed 7 4) 0 cut (pointed 7 4)
    -- 16: one byte too few; 15 comes before it
    ∷ packs book 8 (fresh 14) 14 (refused 16 []) (fresh 14)
    ∷ packs (pointed 7 1 ++ tiny) nobody [] 0 (refused 15 (15 ∷ [])) []
    -- nothing is left
    ∷ packs (pointed 7 1) 7 (9 ∷ []) 1 finished (0 ∷ [])
    ∷ packs [] nobody [] 0 finished []
    ∷ []

pub packings-hold : map (λ (s : Step). s.given) packings ≡ map (λ (s : Step). s.stated) packings
unfolding pair_at word_at words_at fixed_bytes size whole records kind name floor list wrong_length other_kind bad is_other packed wanted
    mends_all pack_reply remade reply bad_count too_many outside some_outside equal_pair left_broken rule_broken bad_start breaks precedes
    max_corners max_coordinate
packings-hold = refl
