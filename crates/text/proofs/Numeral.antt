-- What digits stand for, read one after another.
--     sized n ds           what the digits ds stand for after those of n, if it is at most 2,147,483,648
--     sized-more           one digit more that leaves it so
--     sized-none           one more that does not, or is no digit
use Rattle.std.proofs.Common.{◌≡◌, ℕ, ◌+◌, ◌-◌, ◌*◌, ◌<◌, ◌≤◌, length, true, List, [], ◌∷◌, cond, None, Option, Some, arith}
use Rattle.std.specs.Prelude.{leb, ◌&&◌}
use Rattle.std.specs.Char.{is_ascii_digit, digit_value}
use Rattle.std.specs.Str.{all_ascii_digits}
use Rattle.std.specs.Str.Parse.{digits_value_after}
use Rattle.std.proofs.lemmas.Bool.Decides.{nat_tests}
use Rattle.text.specs.Numeral.{size_of, grown_by}

abbrev pub sized : ℕ → List ℕ → Option ℕ
sized n ds = cond (all_ascii_digits ds && leb (digits_value_after 10 n ds) 2147483648) (Some (digits_value_after 10 n ds)) None

-- more digits stand for no less
grows : (n : ℕ) (ds : List ℕ) → n ≤ digits_value_after 10 n ds
grows n [] = omega arith
grows n (c ∷ cs) = omega (arith, grows (n * 10 + digit_value c) cs)

counts : (c : ℕ) → is_ascii_digit c ≡ true → digit_value c ≡ c - 48
counts c e = grind (arith, nat_tests)

pub sized-more : (n c m : ℕ) (cs : List ℕ) → Some m ≡ grown_by n c → (m ≤ 2147483648) × (sized n (c ∷ cs) ≡ sized m cs)
sized-more n c m cs e = grind (arith, nat_tests, counts c)

pub sized-none : (n c : ℕ) (cs : List ℕ) → None ≡ grown_by n c → sized n (c ∷ cs) ≡ None
sized-none n c cs e = grind (arith, nat_tests, counts c, grows (n * 10 + digit_value c) cs)

pub sized-end : (n : ℕ) → n ≤ 2147483648 → sized n [] ≡ Some n
sized-end n h = grind (arith, nat_tests)

pub sized-all : (ds : List ℕ) → 0 < length ds → size_of ds ≡ sized 0 ds
sized-all ds h = grind (arith, nat_tests)
