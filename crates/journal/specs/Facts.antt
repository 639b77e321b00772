-- What the tests of a log's records say, as facts.
--     Whole t                   a whole record is at the front of t
--     Good r                    the record r is not bad
--     FirstBad rs p             one of the records rs is bad, and the first such record is at place p
--     Recorded r, AllRecorded   r is a recorded shape, of either kind; all records of a list are
--     Holds n rs                where in rs the name n is
-- That they say the same as the tests: `Meaning.antt`.
use Rattle.std.specs.Prelude.{◌≡◌, true, false, ◌⊎◌, List, [], ◌∷◌, ◌++◌, ℕ, ◌+◌, ◌*◌, ◌≤◌, ◌<◌, length, get_or, ℤ}
use Rattle.plane.specs.Refusal.{Valid}
use Rattle.journal.specs.Format.{last_byte, fixed_bytes, recorded, recorded_plain, size, kind, list, bad}
use Rattle.journal.specs.Format.{name as format_name}
use Rattle.journal.specs.Reading.{damaged}
use Rattle.journal.specs.Adding.{joined}

-- none of "Length 0, fewer than two bytes left, a record running past the end, or a missing last byte"
pub record Whole (t : List ℕ) : Type 0 where
  pub two : 2 ≤ length t
  pub some : 0 < size t
  pub fits : 2 + size t ≤ length t
  pub ends : get_or t (1 + size t) 0 ≡ last_byte

-- neither "of another kind or a wrong length, or one whose corners are no shape"
pub record Good (r : List ℕ) : Type 0 where
  pub kind-is : (kind r ≡ 1) ⊎ (kind r ≡ 2)
  pub corners : ℕ
  pub length-is : size r ≡ fixed_bytes (kind r) + 8 * corners
  pub shape : Valid (list r)

-- of these records, `one` is the first that is bad
pub record FirstBad (rs : List (List ℕ)) (place : ℕ) : Type 0 where
  pub before : List (List ℕ)
  pub one : List ℕ
  pub behind : List (List ℕ)
  pub all : rs ≡ before ++ one ∷ behind
  pub sound : damaged before ≡ false
  pub is-bad : bad one ≡ true
  pub at : place ≡ length (joined before)

pub record Recorded (r : List ℕ) : Type 0 where
  pub name : ℕ
  pub floor : ℕ
  pub numbers : List ℤ
  pub valid : Valid numbers
  pub is : (r ≡ recorded_plain name numbers) ⊎ (r ≡ recorded name floor numbers)

abbrev pub AllRecorded : List (List ℕ) → Type 0
AllRecorded [] = Unit {0}
AllRecorded (r ∷ rs) = Recorded r × AllRecorded rs

-- one of these records has the name
pub record Holds (n : ℕ) (rs : List (List ℕ)) : Type 0 where
  pub position : ℕ
  pub inside : position < length rs
  pub has : format_name (get_or rs position []) ≡ n
