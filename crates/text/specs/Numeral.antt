-- The numbers of 32 bits that words stand for.
--     number_of word              the number of a word: decimal digits, with a minus before them or none
--     signed_number negative ds   the number of digits with this sign
--     signed_of negative n        the number of size n with this sign, if 32 bits hold it
--     size_of ds                  what digits stand for, one or more, if it is at most 2,147,483,648
--     grown_by n c                n with the digit c after it, likewise
use Rattle.std.specs.Prelude.{ℕ, ℤ, Bool, true, false, cond, ltb, leb, pos, neg_ℤ, Option, Some, None, List, length, drop, ◌&&◌}
use Rattle.std.specs.Prelude.{◌+◌, ◌*◌, ◌-◌}
use Rattle.std.specs.Char.{is_ascii_digit}
use Rattle.std.specs.Str.{all_ascii_digits}
use Rattle.std.specs.Str.Parse.{starts_with_minus, digits_value}

-- -0 is 0
abbrev pub signed_of : Bool → ℕ → Option ℤ
signed_of false n = cond (ltb n 2147483648) (Some (pos n)) None
signed_of true n = cond (leb n 2147483648) (Some (neg_ℤ (pos n))) None

abbrev pub signed_number : Bool → List ℕ → Option ℤ
signed_number negative ds = cond (all_ascii_digits ds && ltb 0 (length ds)) (signed_of negative (digits_value 10 ds)) None

abbrev pub number_of : List ℕ → Option ℤ
number_of word = cond (starts_with_minus word) (signed_number true (drop 1 word)) (signed_number false word)

abbrev pub size_of : List ℕ → Option ℕ
size_of ds = cond (all_ascii_digits ds && ltb 0 (length ds) && leb (digits_value 10 ds) 2147483648) (Some (digits_value 10 ds)) None

abbrev pub grown_by : ℕ → ℕ → Option ℕ
grown_by n c = cond (is_ascii_digit c && leb (n * 10 + (c - 48)) 2147483648) (Some (n * 10 + (c - 48))) None
