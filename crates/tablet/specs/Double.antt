-- The exact value of a finite double: the fraction ± over / under (document 02, W4, "its exact value"). Of the kit's `fin s m e`, which is
-- m · 2^e and negative where s is true, that is m · up e / down e. A NaN and an infinity have no value; here they count as 0 / 1, and
-- whoever asks tests `finite` first.
--     finite v                         neither a NaN nor an infinity
--     negative v, over v, under v      the sign and the two parts of the fraction
--     signed s n                       n, or -n where s is true; minus zero is 0
--     holding n                        the double that is sent back for n: the kit's rounding, which loses nothing (`sent-back-exactly`)
use Rattle.std.specs.Prelude.{ℕ, ◌*◌, Bool, true, false, cond, ℤ, pos, neg_ℤ, Float}
use Rattle.std.specs.Float.{nan, inf, fin, binary64}
use Rattle.std.specs.Float.Ieee.{up, down, of_int}

unfoldable pub finite : Float → Bool
finite nan = false
finite (inf s) = false
finite (fin s m e) = true

unfoldable pub negative : Float → Bool
negative nan = false
negative (inf s) = false
negative (fin s m e) = s

unfoldable pub over : Float → ℕ
over nan = 0
over (inf s) = 0
over (fin s m e) = m * up e

unfoldable pub under : Float → ℕ
under nan = 1
under (inf s) = 1
under (fin s m e) = down e

abbrev pub signed : Bool → ℕ → ℤ
signed s n = cond s (neg_ℤ (pos n)) (pos n)

unfoldable pub holding : ℤ → Float
holding n = of_int binary64 n
