-- What is passed to the calls on lists for bytes, and what becomes of their reply. Our own, not of document 02.
--     Alike l s               s may be asked about in place of l: it is l, or both are refused 1, or both 2
--     small_bytes              how many bytes hold a small list
--     Enough b n              n numbers hold what is read of b bytes
--     Spacious m n s          s numbers hold a shape that has no more numbers than m and n together
--     Cut n r                 r of n numbers are read: all, or more than a shape may have, even or odd as n is
--     Room b most r           an output of b bytes has room for a shape exactly if r numbers have; for one of at most `most` numbers
--     Holds m a b most        that number of numbers holds what is made of two valid lists, unless it has too many corners
--     Narrow ns               the numbers of a reply have room in the fields of `packed`
--     Packs ns n              n is the reply, packed, whose numbers these are
--     combined m              how two shapes are made one: merged or summed
--     asked c a b out         the question that writes what c makes of two shapes, as `ask_sum` and `ask_merge` are
--     ask_bytes m a f b g out  the call, as `ask_sum_bytes` and `ask_merge_bytes` are
use Rattle.std.specs.Prelude.{◌≡◌, Bool, true, false, List, ◌++◌, ℕ, ◌+◌, ◌*◌, ◌%◌, ◌≤◌, ◌<◌, ℤ, length, get_or}
use Rattle.plane.specs.Limits.{max_corners}
use Rattle.plane.specs.Point.{Point, points}
use Rattle.plane.specs.Reply.{Reply}
use Rattle.plane.specs.Refusal.{bad_count, too_many, Valid}
use Rattle.plane.specs.Corner.{shape_of, sums}
use Rattle.plane.specs.Floor.{Floored, on, corners, two_shapes}
use Rattle.plane.specs.Question.{Question, makes}
use Rattle.wire.specs.Told.{crossed}
use Rattle.crossing.specs.LowFloor.{low_floor}
use Rattle.bytewise.specs.Bytes.{words_in, list_of}
use Rattle.bytewise.specs.Packing.{packed}

pub data Alike (l s : List ℤ) : Type 0 where
  equal : s ≡ l → Alike l s
  odd : bad_count l ≡ true → bad_count s ≡ true → Alike l s
  many : bad_count l ≡ false → bad_count s ≡ false → too_many (points l) ≡ true → too_many (points s) ≡ true → Alike l s

unfoldable pub small_bytes : ℕ
small_bytes = 1024

abbrev pub Enough : ℕ → ℕ → Type 0
Enough b n = (r : ℕ) → 4 * r ≤ b → r ≤ 3 + 2 * max_corners → r ≤ n

abbrev pub Spacious : ℕ → ℕ → ℕ → Type 0
Spacious m n s = (c : ℕ) → c ≤ max_corners → 2 * c ≤ m + n → 2 * c ≤ s

pub record Cut (n r : ℕ) : Type 0 where
  pub within : r ≤ n
  pub few : r ≤ 3 + 2 * max_corners
  pub whole : r < 2 + 2 * max_corners → r ≡ n
  pub parity : r % 2 ≡ n % 2

pub record Room (b most r : ℕ) : Type 0 where
  pub holds : (c : ℕ) → 2 * c ≤ r → 8 * c ≤ b
  pub enough : (c : ℕ) → 2 * c ≤ most → 8 * c ≤ b → 2 * c ≤ r

-- the number, what is carried from place 1 on, and the values from place 5 on
pub record Narrow (ns : List ℕ) : Type 0 where
  pub number_fits : get_or ns 0 0 < 256
  pub shape-fits : get_or ns 1 0 < 256
  pub first_fits : get_or ns 2 0 + get_or ns 5 0 < 65536
  pub second_fits : get_or ns 3 0 + get_or ns 6 0 < 65536

abbrev pub Packs : List ℕ → ℕ → Type 0
Packs ns n = (r : Reply) → ns ≡ crossed r → n ≡ packed r

abbrev pub combined : Bool → List Point → List Point → List Point
combined true A B = shape_of (A ++ B)
combined false A B = shape_of (sums A B)

abbrev pub Holds : Bool → List ℤ → List ℤ → ℕ → Type 0
Holds merged a b most =
    let shape = combined merged (points a) (points b) in Valid a → Valid b → too_many shape ≡ false → 2 * length shape ≤ most

abbrev pub asked : (List Point → List Point → List Point) → Floored → Floored → List ℤ → Question
asked made a b out = low_floor (makes (two_shapes a b) (made (corners a) (corners b)) out)

abbrev pub ask_bytes : Bool → List ℕ → ℕ → List ℕ → ℕ → List ℕ → Question
ask_bytes merged a f b g out = asked (combined merged) (on (list_of a) f) (on (list_of b) g) (words_in out)
