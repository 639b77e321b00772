-- A search for a direction that is refused.
--     search-refused      nothing is said of what would be found
use Rattle.std.specs.Prelude.{None}
use Rattle.plane.specs.Reply.{Reply}
use Rattle.plane.specs.Floor.{Floored, pair_rows}
use Rattle.plane.proofs.theory.refusals.Rows.{first-not-none}
use Rattle.separator.specs.Separator.{SeparatorBetween, ask_separator}
use Rattle.admission.specs.Admission.{Refuses}
use Rattle.admission.specs.theory.Door.{shapes-refused}

pub search-refused : (a b : Floored) {r : Reply} → Refuses (pair_rows a b) r → SeparatorBetween a b r
search-refused a b f = record {
  found = None;
  reply-is = (shapes-refused (ask_separator a b None) f).0;
  found-is = λ none. absurd (first-not-none f.first none);
}
