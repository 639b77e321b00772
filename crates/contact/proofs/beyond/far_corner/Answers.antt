-- `far_corner` meets its contract, one coordinate after the other.
use mathlib.Core.Path.{◌≡◌, refl, ◌∙◌, ap₂}
use Prim.Native.Nat.{◌^◌}
use mir.Syntax.{w32}
use mir.Val.{to_z, of_z}
use mir.Facts.{to_z-of_z}
use lib.IntN.{ℤ}
use Rattle.integer.specs.Bound.{Within}
use Rattle.integer.specs.Machine.{within-fits, result-is}
use Rattle.plane.specs.Point.{point}
use Rattle.contact.specs.Share.{box_part}
use Rattle.contact.proofs.beyond.far_corner.Goals as goal

-- a part of small numbers, read back from their bits
read : (d h l : ℤ) → Within (2 ^ 21) d → Within (2 ^ 22) h → Within (2 ^ 22) l
    → box_part (to_z w32 (of_z w32 d)) (to_z w32 (of_z w32 h)) (to_z w32 (of_z w32 l)) ≡ box_part d h l
read d h l i j k = rw
    (to_z-of_z {w = w32} (within-fits tt i), to_z-of_z {w = w32} (within-fits tt j), to_z-of_z {w = w32} (within-fits tt k)) refl

pub returns : goal.returns
returns c =
    let (h, l, d) = c.requires in
    ap₂ point (result-is w32 c.far_part-x.type_inv (c.far_part-x.ensures ∙ read _ _ _ d.small-x h.small-x l.small-x))
    (result-is w32 c.far_part-y.type_inv (c.far_part-y.ensures ∙ read _ _ _ d.small-y h.small-y l.small-y))
