-- The number that stands for a kind in a record (document 02, W5 and W11).
--     number k    1 for a record that says no floor, 2 for one that says its floor
use Rattle.std.specs.Prelude.{ℕ}
use Rattle.journal.specs.declared.kind.Kind.{Kind}
use Rattle.journal.specs.declared.kind.Kind.TheVariants.{Plain, Floored}

abbrev pub number : Kind → ℕ
number Plain = 1
number Floored = 2
