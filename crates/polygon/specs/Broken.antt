-- Where refusal 4 finds the rules broken, as the code carries it.
--     left_break ps     the first edge, then the first corner, that breaks the left rule; None if none does
--     broken ps        the same with two equal corners in a list of two, at 0 and 1: the table's row 4
use Rattle.std.specs.Prelude.{cond, List, Option, Some, None}
use Rattle.plane.specs.Point.{Point}
use Rattle.plane.specs.Refusal.{left_broken, breaking_edge, breaking_corner, rule_broken, broken_edge, broken_corner}
use Rattle.polygon.specs.declared.rules.Broken.{Broken}

abbrev pub left_break : List Point → Option Broken
left_break ps = cond (left_broken ps) (Some (record { edge = breaking_edge ps; corner = breaking_corner ps })) None

abbrev pub broken : List Point → Option Broken
broken ps = cond (rule_broken ps) (Some (record { edge = broken_edge ps; corner = broken_corner ps })) None
