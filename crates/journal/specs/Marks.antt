-- A table that tells where names come last. Our own, not of document 02.
--     places_of t            the places of the table t, or none at all
--     Placed t h p            the place that t has for these bits is p
--     last_place h rs p d     of the records rs, the first of them at place p, the place of the last whose name has h as its last ten
--                            bits; d if none has
--     Marked b t p           every place of the table t is this, of the records from place p of the log b on; or none of them has these
--                            bits. Names whose bits the table has no place for are not said anything of
use Rattle.std.specs.Prelude.{◌≡◌, cond, List, [], ◌∷◌, ℕ, ◌+◌, ◌%◌, ◌<◌, eqb, length, get_or, drop, unwrap_or}
use Rattle.journal.specs.Format.{size, records, name}
use Rattle.journal.specs.declared.marks.Table.{Table}

abbrev pub places_of : Table → List ℕ
places_of t = unwrap_or t.places []

abbrev pub Placed : List ℕ → ℕ → ℕ → Type 0
Placed t h p = (h < length t) × (get_or t h 0 ≡ p)

abbrev pub last_place : ℕ → List (List ℕ) → ℕ → ℕ → ℕ
last_place h [] p d = d
last_place h (r ∷ rs) p d = last_place h rs (p + (2 + size r)) (cond (eqb (name r % 1024) h) p d)

pub record MarkedAt (b t : List ℕ) (p h : ℕ) : Type 0 where
  pub before : ℕ
  pub is : get_or t h 0 ≡ last_place h (records (drop p b)) p before

abbrev pub Marked : List ℕ → List ℕ → ℕ → Type 0
Marked b t p = (h : ℕ) → h < length t → MarkedAt b t p h
