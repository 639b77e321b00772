-- Numbers as bytes (document 02, W5: "all little-endian"; W14: "four-byte little-endian"). A byte is a number below 256.
--     pair n         the two bytes of a number below 65,536
--     pair_at t p     the two-byte number at place p
--     word z         the four bytes of a number, "four-byte two's-complement"; the kit's `of_z w32` gives its bits
--     word_at t p     the four-byte number at place p, read as signed by the kit's `to_z w32`
--     words l        a list of numbers, four bytes each
--     words_at k t p  the k four-byte numbers from place p on
use Rattle.std.specs.Prelude.{List, [], ◌∷◌, ◌++◌, ℕ, zero, suc, ◌+◌, ◌*◌, ◌/◌, ◌%◌, get_or, ℤ}
use Rattle.std.specs.Int.{w32}
use Rattle.std.proofs.Common.{of_z, to_z}

unfoldable pub pair : ℕ → List ℕ
pair n = n % 256 ∷ n / 256 % 256 ∷ []

unfoldable pub pair_at : List ℕ → ℕ → ℕ
pair_at t p = get_or t p 0 + 256 * get_or t (1 + p) 0

unfoldable pub word : ℤ → List ℕ
word z = pair (of_z w32 z % 65536) ++ pair (of_z w32 z / 65536)

unfoldable pub word_at : List ℕ → ℕ → ℤ
word_at t p = to_z w32 (pair_at t p + 65536 * pair_at t (2 + p))

unfoldable pub words : List ℤ → List ℕ
words [] = []
words (z ∷ l) = word z ++ words l

unfoldable pub words_at : ℕ → List ℕ → ℕ → List ℤ
words_at zero t p = []
words_at (suc k) t p = word_at t p ∷ words_at k t (4 + p)
