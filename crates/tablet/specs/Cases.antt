-- What document 02, W4, and its reading say of single readings and corners, as one table over the definitions and one fact about all its
-- rows, by computing.
use Rattle.std.specs.Prelude.{◌≡◌, true, false, List, [], ◌∷◌, map, pos, negsuc, refl, Float}
use Rattle.std.specs.Float.{nan, inf, fin, binary64}
use Rattle.std.specs.Float.Ieee.{mul, of_int, round, size, span, climb, units, odd}
use Rattle.std.specs.Int.Count.{count_trailing_zeros}
use Rattle.plane.specs.Limits.{max_coordinate}
use Rattle.plane.specs.Reply.{Reply, answered, refused}
use Rattle.plane.specs.Refusal.{outside}
use Rattle.tablet.specs.Double.{finite, negative, over, under, holding}
use Rattle.tablet.specs.Reading.{not_finite, not_whole, whole_number, far, tablet_reply, Sent, tablet_sent}
use Rattle.tablet.specs.declared.reading.Reading.{Reading}
use Rattle.tablet.specs.declared.reading.Reading.TheVariants.{Millimetres, Eighths}

-- the smallest positive double, 2^-1074
abbrev smallest : Float
smallest = fin false 1 (negsuc 1073)

-- what the definition gives for a corner, and what is stated
pub record Case : Type 0 where
  pub given : Sent
  pub stated : Sent

abbrev says : Reading → Reading → Reply → List Float → Case
says x y r ds = record { given = tablet_sent x y; stated = record { reply = r; doubles = ds } }

abbrev pub cases : List Case
cases =
    -- 3 mm and -16 eighths: 3 and -2, sent back as 3 = 3 · 2^0 and -2 = -1 · 2^1
    says (Millimetres (fin false 3 (pos 0))) (Eighths (fin true 1 (pos 4))) (answered (pos 3 ∷ negsuc 1 ∷ []))
    (fin false 3 (pos 0) ∷ fin true 1 (pos 1) ∷ [])
    -- "Minus zero is 0, sent back as plus zero"
    ∷ says (Millimetres (fin true 0 (pos 0))) (Eighths (fin true 0 (pos 0))) (answered (pos 0 ∷ pos 0 ∷ []))
    (fin false 0 (pos 0) ∷ fin false 0 (pos 0) ∷ [])
    -- "The smallest positive double in eighths is 18"
    ∷ says (Eighths smallest) (Millimetres nan) (refused 18 (1 ∷ [])) []
    -- "x is judged wholly before y": 3 of x before 17 of y
    ∷ says (Eighths (fin false 1000001 (pos 3))) (Millimetres (inf true)) (refused 3 (1 ∷ [])) []
    -- 1000000.5 mm, and 8,000,001 eighths
    ∷ says (Millimetres (fin true 15625 (pos 6))) (Millimetres (fin false 2000001 (negsuc 0))) (refused 18 (2 ∷ [])) []
    ∷ says (Eighths (fin false 8000001 (pos 0))) (Millimetres nan) (refused 18 (1 ∷ [])) []
    -- 2^53 and 2^1023 mm
    ∷ says (Millimetres (fin false 1 (pos 53))) (Millimetres nan) (refused 3 (1 ∷ [])) []
    ∷ says (Eighths (fin false 1 (pos 3))) (Millimetres (fin true 1 (pos 1023))) (refused 3 (2 ∷ [])) []
    ∷ says (Millimetres nan) (Millimetres nan) (refused 17 (1 ∷ [])) []
    ∷ []

pub cases-hold : map (λ (c : Case). c.given) cases ≡ map (λ (c : Case). c.stated) cases
unfolding max_coordinate outside finite negative over under holding not_finite not_whole whole_number far tablet_reply
    of_int round size span climb units odd
    count_trailing_zeros
cases-hold = refl

-- "although scaling it would round to zero"
pub smallest-scaled-is-zero : mul binary64 smallest (fin false 1 (negsuc 2)) ≡ fin false 0 (pos 0)
unfolding mul round size span climb units odd count_trailing_zeros
smallest-scaled-is-zero = refl
