-- A reading of the surveyor's tablet, and a corner of two readings (document 02, W4).
--     double r, unit r          the double that a reading carries, and how many of its units make a millimetre
--     top r, bottom r           its exact value in millimetres, as a fraction
--     not_finite, not_whole, far  rows 17, 18 and 3, in this order: `reading_rows part r`; the part is 1 for x and 2 for y
--     whole_number r             the value cut to a whole number; where r is whole, the value
--     read_as r                  what one reading comes to
--     tablet_reply x y           "x is judged wholly before y, and a refusal says which of them it was and gives nothing else"
--     tablet_sent x y            the reply, and the doubles that go back: none on a refusal
-- What it means: `accepted-exactly`, `exactly-accepted`, `never-rounded`, `sent-back-exactly` and the tables of `Meaning.antt`.
use Rattle.std.specs.Prelude.{Result, Ok, Err}
use Rattle.std.specs.Prelude.{ℕ, ◌*◌, ◌/◌, ◌%◌, Bool, cond, not, List, [], ◌∷◌, ◌++◌, map, ℤ, ◌==◌, Float}
use Rattle.plane.specs.Reply.{Reply, answered, refused, Row, row, first_row}
use Rattle.plane.specs.Refusal.{outside}
use Rattle.tablet.specs.Double.{finite, negative, over, under, signed, holding}
use Rattle.tablet.specs.declared.reading.Reading.{Reading}
use Rattle.tablet.specs.declared.reading.Reading.TheVariants.{Millimetres, Eighths}
use Rattle.tablet.specs.declared.reading.Fault.{Fault}
use Rattle.tablet.specs.declared.reading.Fault.TheVariants.{NotFinite, NotWhole, Far}

-- "either millimetres or eighths of a millimetre, each carrying its own double"
abbrev pub double : Reading → Float
double (Millimetres v) = v
double (Eighths v) = v

abbrev pub unit : Reading → ℕ
unit (Millimetres v) = 1
unit (Eighths v) = 8

-- "its exact value in millimetres": top r / bottom r
abbrev pub top : Reading → ℤ
top r = signed (negative (double r)) (over (double r))

abbrev pub bottom : Reading → ℕ
bottom r = under (double r) * unit r

-- 17: "a value that is not finite"
unfoldable pub not_finite : Reading → Bool
not_finite r = not (finite (double r))

-- 18: "if not whole"
unfoldable pub not_whole : Reading → Bool
not_whole r = not (over (double r) % bottom r == 0)

unfoldable pub whole_number : Reading → ℤ
whole_number r = signed (negative (double r)) (over (double r) / bottom r)

-- "then 3 for range"
unfoldable pub far : Reading → Bool
far r = outside (whole_number r)

-- "Refuse 17 .., 18 .., then 3 .., in that order"
unfoldable pub read_as : Reading → Result ℤ Fault
read_as r = cond (not_finite r) (Err NotFinite) (cond (not_whole r) (Err NotWhole) (cond (far r) (Err Far) (Ok (whole_number r))))

abbrev pub reading_rows : ℕ → Reading → List Row
reading_rows part r = row 17 (not_finite r) (part ∷ []) ∷ row 18 (not_whole r) (part ∷ []) ∷ row 3 (far r) (part ∷ []) ∷ []

abbrev pub corner_rows : Reading → Reading → List Row
corner_rows x y = reading_rows 1 x ++ reading_rows 2 y

unfoldable pub tablet_reply : Reading → Reading → Reply
tablet_reply x y = first_row (corner_rows x y) (answered (whole_number x ∷ whole_number y ∷ []))

-- "Send each accepted corner back as a pair of doubles that hold exactly the whole numbers"
abbrev pub sent_back : Reply → List Float
sent_back (answered ns) = map holding ns
sent_back (refused n c) = []

pub record Sent : Type 0 where
  pub reply : Reply
  pub doubles : List Float

abbrev pub tablet_sent : Reading → Reading → Sent
tablet_sent x y = record { reply = tablet_reply x y; doubles = sent_back (tablet_reply x y) }
