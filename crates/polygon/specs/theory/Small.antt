-- Points that are small enough for the code's arithmetic: a corner, a sum or difference of two corners, and the products of two of those.
--     small-corner    a corner of a list in range
--     small-wide      what may be added may be multiplied
--     small-step, small-plus    a difference and a sum may be multiplied
--     small-edge      a difference of two corners of one list may be added
use Rattle.std.specs.Prelude.{◌≡◌, List, ℕ, ◌^◌, ◌≤◌, ◌<◌, ℤ, length}
use Rattle.std.proofs.Common.{sym, subst, le_trans, lit≤}
use Rattle.integer.specs.Bound.{within-widen, within-add, within-neg}
use Rattle.plane.specs.Limits.{coordinate-small}
use Rattle.plane.specs.Point.{Point, points, corner, ◌⊕◌, ◌⊖◌}
use Rattle.plane.specs.Refusal.{InRange}
use Rattle.plane.proofs.theory.lists.Flat.{points_near}
use Rattle.polygon.specs.Point.{Small}

small-widen : {m n : ℕ} {p : Point} → m ≤ n → Small m p → Small n p
small-widen h s = record { small-x = within-widen h s.small-x; small-y = within-widen h s.small-y }

pub small-corner : (l : List ℤ) → InRange l → (i : ℕ) → i < length (points l) → {p : Point} → p ≡ corner (points l) i → Small (2 ^ 21) p
small-corner l r i h e =
    let near = points_near l r i h in
    subst (Small (2 ^ 21)) (sym e)
    (small-widen (le_trans coordinate-small (lit≤ tt)) (record { small-x = near.near-x; small-y = near.near-y }))

pub small-wide : {p : Point} → Small (2 ^ 21) p → Small (2 ^ 22) p
small-wide s = small-widen (lit≤ tt) s

pub small-plus : {p q r : Point} → Small (2 ^ 21) p → Small (2 ^ 21) q → r ≡ p ⊕ q → Small (2 ^ 22) r
small-plus s t e =
    subst (Small (2 ^ 22)) (sym e)
    (record { small-x = within-add s.small-x t.small-x; small-y = within-add s.small-y t.small-y })

pub small-step : {p q r : Point} → Small (2 ^ 21) p → Small (2 ^ 21) q → r ≡ q ⊖ p → Small (2 ^ 22) r
small-step s t e = small-plus t (record { small-x = within-neg s.small-x; small-y = within-neg s.small-y }) e

-- two corners differ by no more than may be added once more
pub small-edge : (l : List ℤ) → InRange l → (i j : ℕ) → i < length (points l) → j < length (points l) → {r : Point}
    → r ≡ corner (points l) j ⊖ corner (points l) i → Small (2 ^ 21) r
small-edge l r i j h k e =
    let p = points_near l r i h in
    let q = points_near l r j k in
    subst (Small (2 ^ 21)) (sym e) (record {
      small-x = within-add (within-widen coordinate-small q.near-x) (within-neg (within-widen coordinate-small p.near-x));
      small-y = within-add (within-widen coordinate-small q.near-y) (within-neg (within-widen coordinate-small p.near-y));
    })
