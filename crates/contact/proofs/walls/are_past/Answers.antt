-- `are_past` meets its contract.
use mir.Syntax.{w64}
use mathlib.Core.Path.{sym, ◌∙◌, ap}
use mir.Facts.{to_z-of_z}
use lib.IntN.{pos}
use lib.Signed.{lt_z}
use Rattle.contact.proofs.theory.Beyond.{by_first}
use Rattle.contact.proofs.walls.are_past.Goals as goal

pub returns-then-a-gt0 : goal.returns-then-a-gt0
returns-then-a-gt0 c =
    ap (lt_z (pos 0)) (to_z-of_z {w = w64} c.ranges.b) ∙ by_first _
    (sym (ap (lt_z (pos 0)) (to_z-of_z {w = w64} c.ranges.a)) ∙ c.if-a-gt0.true)

pub returns-else-a-gt0 : goal.returns-else-a-gt0
returns-else-a-gt0 c = c.if-a-gt0.false ∙ by_first _ (sym (ap (lt_z (pos 0)) (to_z-of_z {w = w64} c.ranges.a)) ∙ c.if-a-gt0.false)
