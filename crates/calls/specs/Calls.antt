-- What the calls answer that is more than a question's reply.
--     SeparatorTold a b ns     ns are the numbers of what the search for a direction may answer; which one is left open
--     added_low b n f l k       an addition to a log on any floor: 1 to 5, then 13 for a floor above its limit, then 15 and 16. That 13
--                              comes before 15 is our own: document 02 has no floor above its limit in a log
use Rattle.std.specs.Prelude.{◌≡◌, cond, List, ℕ, ltb, ℤ, Option}
use Rattle.plane.specs.Limits.{max_floor}
use Rattle.plane.specs.Reply.{NoneApply}
use Rattle.plane.specs.Refusal.{shape_rows}
use Rattle.plane.specs.Floor.{Floored, corners}
use Rattle.plane.specs.Question.{table, reply}
use Rattle.polygon.specs.declared.point.Point.{Point}
use Rattle.separator.specs.Separator.{Finds, ask_separator}
use Rattle.journal.specs.Adding.{Added, added}
use Rattle.wire.specs.Told.{crossed}
use Rattle.crossing.specs.LowFloor.{low_floor, barred}

pub record SeparatorTold (a b : Floored) (ns : List ℕ) : Type 0 where
  pub found : Option Point
  pub numbers-are : ns ≡ crossed (reply (low_floor (ask_separator a b found)))
  -- where no refusal is due
  pub found-is : NoneApply (table (low_floor (ask_separator a b found))) → Finds (corners a) (corners b) found

unfoldable pub added_low : List ℕ → ℕ → ℕ → List ℤ → ℕ → Added
added_low b n f l k = cond (ltb max_floor f) (record { reply = barred (shape_rows 1 l); log = b }) (added b n f l k)
