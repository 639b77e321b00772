-- How large turns and values get: for points in range (`Near`) and directions that refusal 11 lets pass.
--     turn-size      no turn exceeds 8,000,000,000,000 in size
--     value-size     no value exceeds 4,000,000,000,000 in size, and so neither does the greatest: `support-size`
use Rattle.std.proofs.Common.{subst}
use Rattle.std.specs.Prelude.{List, ◌<◌, length, ℤ}
use Rattle.integer.specs.Bound.{Within, within-add, within-neg, within-mul}
use Rattle.plane.specs.Limits.{max_coordinate, max_part}
use Rattle.plane.specs.Point.{Point, points}
use Rattle.plane.specs.Turn.{turn}
use Rattle.plane.specs.Refusal.{InRange}
use Rattle.plane.specs.Direction.{value, support}
use Rattle.plane.proofs.theory.lists.Flat.{Near, points_near}
use Rattle.plane.proofs.theory.lists.Members.{member-position}
use Rattle.plane.proofs.theory.support.Support.{support-attained}

pub turn-size : {a b c : Point} → Near a → Near b → Near c → Within 8_000_000_000_000 (turn a b c)
unfolding turn max_coordinate
turn-size a b c = within-add
    (within-mul (within-add b.near-x (within-neg a.near-x)) (within-add c.near-y (within-neg a.near-y)))
    (within-neg (within-mul (within-add b.near-y (within-neg a.near-y)) (within-add c.near-x (within-neg a.near-x))))

pub value-size : {d p : Point} → Within max_part d.x → Within max_part d.y → Near p → Within 4_000_000_000_000 (value d p)
unfolding value max_coordinate max_part
value-size u v p = within-add (within-mul u p.near-x) (within-mul v p.near-y)

-- the greatest value is that of some corner
pub support-size : (l : List ℤ) → InRange l → {d : Point} → Within max_part d.x → Within max_part d.y → 0 < length (points l)
    → Within 4_000_000_000_000 (support d (points l))
support-size l r {d} u v some =
    let a = support-attained d (points l) some in
    let i = member-position a.at_in in
    subst (λ z. Within 4_000_000_000_000 z) a.at_value (value-size u v (subst Near i.2 (points_near l r i.0 i.1)))
