-- `is_before` meets its contract: of two edges in different halves the one that points up is first, of two in one half the product tells.
use mathlib.Core.Path.{◌≡◌, refl, sym, ◌∙◌, ap}
use mathlib.Core.Bool.{Bool, true, false, not, ◌&&◌, ◌||◌}
use lib.IntN.{pos}
use lib.Signed.{lt_z}
use mir.Syntax.{w64}
use Rattle.integer.specs.Machine.{result-is}
use Rattle.plane.specs.Point.{Point}
use Rattle.plane.specs.Turn.{cross}
use Rattle.plane.specs.Forms.{up, before}
use Rattle.plane.proofs.theory.forms.Angle.{before-alike}
use Rattle.calipers.proofs.Tests.{equal, different}
use Rattle.calipers.proofs.side.is_before.Goals as goal

-- of two halves the upper is first
before-apart : (e f : Point) → up e ≡ not (up f) → up e ≡ before e f
unfolding before
before-apart e f h = rw h (go (up f) (lt_z (pos 0) (cross e f)))
  where
    go : (t u : Bool) → not t ≡ ((not t && not t) || ((not t || not t) && u))
    go true u = refl
    go false u = refl

pub returns-then-is_up : goal.returns-then-is_up
returns-then-is_up c =
    c.is_up-then-is_up.ensures ∙ before-apart _ _
    (sym c.is_up.ensures ∙ different _ _ c.if-is_up.true ∙ ap not c.is_up-2.ensures)

pub returns : goal.returns
returns c =
    ap (lt_z (pos 0)) (result-is w64 c.order.type_inv c.order.ensures)
    ∙ sym (before-alike _ _ (sym c.is_up.ensures ∙ equal _ _ c.if-is_up.false ∙ c.is_up-2.ensures))
