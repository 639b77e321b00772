-- `skim` meets its contract. The invariant: the walk at these two positions went on by `count` corners, is not over, and may go on; the
-- measure is what is left to count.
use mathlib.Core.Path.{◌≡◌, refl, sym, ◌∙◌, ap, ap₂}
use mathlib.Core.Bool.{Bool, true, false, cond}
use mathlib.Core.List.{List}
use Prim.Native.Nat.{ℕ, ◌+◌, ◌^◌, ◌≤◌, ◌<◌}
use native.Mathlib.Omega.{arith}
use lib.IntN.{ℤ, pos}
use lib.ListN.{length}
use lib.Signed.{lt_z}
use mir.Syntax.{w64}
use mir.Val.{to_z, of_z}
use Rattle.integer.specs.Machine.{result-is}
use Rattle.plane.specs.Point.{Point, points, corner, ◌⊖◌}
use Rattle.plane.specs.Turn.{cross}
use Rattle.plane.specs.Refusal.{InRange}
use Rattle.plane.specs.Forms.{edges}
use Rattle.plane.proofs.theory.lists.Flat.{points-length}
use Rattle.plane.proofs.theory.sum.Positions.{edges-at-most, round-inner}
use Rattle.polygon.specs.Point.{Small}
use Rattle.polygon.specs.theory.Small.{small-step, small-corner}
use Rattle.calipers.specs.Side.{onward, Carried}
use Rattle.calipers.specs.theory.Sides.{onward-inner, edge-inner}
use Rattle.sums.specs.Advance.{state, side_of}
use Rattle.sums.specs.theory.Summed.{next-few}
use Rattle.sums.proofs.Walked.{side_of-carried, walked_start, walked-below, walked-inside}
use Rattle.sums.proofs.size.skim.Goals as goal
use Rattle.sums.proofs.size.skim.Goals.{At-loop-c, In-loop-c}

pub loop-c-init : goal.loop-c-init
loop-c-init c =
    let a = c.args.a.now in
    let b = c.args.b.now in
    let place = c.requires.0 in
    walked_start c.args.i c.args.j place c.requires.1 (side_of a c.args.i) (side_of b c.args.j) refl refl
    (side_of-carried a c.args.i place.standing.left_in) (side_of-carried b c.args.j place.standing.right-in)

-- no number is too large
module _ (c : At-loop-c) where
  first_small : c.loop-c.first < 9223372036854775808
  first_small =
      let a = c.args.a.now in
      omega (arith, c.loop-c.invariant.first-side.at_in, edges-at-most (points a), points-length a, c.well_formed.0)

  second-small : c.loop-c.second < 9223372036854775808
  second-small =
      let b = c.args.b.now in
      omega (arith, c.loop-c.invariant.second-side.at_in, edges-at-most (points b), points-length b, c.well_formed.1.0)

  count_small : c.loop-c.count < 9223372036854775808
  count_small =
      let a = c.args.a.now in
      let b = c.args.b.now in
      omega (
        arith,
        walked-below c.loop-c.invariant,
        next-few a b (state c.args.i c.args.j false) c.args.k c.requires.0,
        points-length a,
        points-length b,
        c.well_formed.0,
        c.well_formed.1.0,
      )

pub inside-requires : goal.inside-requires
inside-requires c = (first_small c, second-small c, count_small c)

-- both shapes have three edges left, and more than one corner may be counted
three : (c : In-loop-c) →
    let args = c.args in
    (c.loop-c.first + 2 < length (edges (points args.a.now)))
    × (c.loop-c.second + 2 < length (edges (points args.b.now)))
    × (c.loop-c.count + 1 < args.k)
three c =
    let left = c.inside.ensures c.loop-c-test.true in
    (omega (arith, left.0, c.sides-m.ensures), omega (arith, left.1, c.sides-n.ensures), left.2)

-- so both corners of either edge are there
corners-there : (c : In-loop-c) →
    let args = c.args in
    (c.loop-c.first + 1 < length (points args.a.now)) × (c.loop-c.second + 1 < length (points args.b.now))
corners-there c =
    let left = three c in
    let args = c.args in
    (omega (arith, left.0, edges-at-most (points args.a.now)), omega (arith, left.1, edges-at-most (points args.b.now)))

pub edge_at-requires : goal.edge_at-requires
edge_at-requires c = ((corners-there c).0, c.requires.0.first-near)

pub edge_at-requires-in-loop-c : goal.edge_at-requires-in-loop-c
edge_at-requires-in-loop-c c = ((corners-there c.before).1, c.requires.0.second-near)

-- an edge is small enough for products, and it is the one of the walk
module _ (l : List ℤ) (near : InRange l) (i : ℕ) (h : i + 1 < length (points l)) {e : Point}
    (is : e ≡ corner (points l) (i + 1) ⊖ corner (points l) i) where
  edge-small : Small (2 ^ 22) e
  edge-small = small-step (small-corner l near i (omega (arith, h)) refl) (small-corner l near (i + 1) h refl) is

  edge-there : i + 2 < length (edges (points l)) → e ≡ corner (edges (points l)) i
  edge-there k =
      is ∙ ap (λ (j : ℕ). corner (points l) (i + 1) ⊖ corner (points l) j) (sym (round-inner (length (points l)) i (omega (arith, h))))
      ∙ edge-inner (points l) _ i refl (omega (arith, k))

-- the side after a step is that of the walk
module _ (l : List ℤ) (waits : Bool) (i r : ℕ) (e : r ≡ cond waits i (i + 1)) (h : i + 2 < length (edges (points l))) where
  passed-at : r ≡ cond waits i (onward (points l) i)
  passed-at = e ∙ ap (cond waits i) (sym (onward-inner (points l) i (omega (arith, h))))

  passed-carried : Carried l (side_of l r)
  passed-carried = side_of-carried l r (go waits e)
    where
      go : (w : Bool) → r ≡ cond w i (i + 1) → r ≤ length (edges (points l))
      go true q = omega (arith, q, h)
      go false q = omega (arith, q, h)

pub cross-c-requires : goal.cross-c-requires
cross-c-requires c =
    let place = c.requires.0 in (
      edge-small _ place.first-near _ (corners-there c.before.before).0 c.edge_at.ensures,
      edge-small _ place.second-near _ (corners-there c.before.before).1 c.edge_at-in-loop-c.ensures,
    )

pub one_more-first-requires : goal.one_more-first-requires
one_more-first-requires c = first_small c.before.before.before.before.before

pub one_more-second-requires : goal.one_more-second-requires
one_more-second-requires c = second-small c.before.before.before.before.before.before

pub loop-c-smaller : goal.loop-c-smaller
loop-c-smaller c = omega (arith, walked-below c.loop-c.invariant)

pub loop-c-preserved : goal.loop-c-preserved
loop-c-preserved c =
    let a = c.args.a.now in
    let b = c.args.b.now in
    let left = three c.before.before.before.before.before in
    let product = to_z w64 (of_z w64 c.cross-c.result) in
    let first = edge-there a c.requires.0.first-near _ (corners-there c.before.before.before.before.before).0
    c.edge_at.ensures left.0 in
    let second = edge-there b c.requires.0.second-near _ (corners-there c.before.before.before.before.before).1
    c.edge_at-in-loop-c.ensures left.1 in
    walked-inside c.loop-c.invariant (result-is w64 c.cross-c.type_inv (c.cross-c.ensures ∙ ap₂ cross first second))
    (side_of a c.one_more-first.result) (side_of b c.one_more-second.result)
    (passed-at a (lt_z product (pos 0)) _ _ c.one_more-first.ensures left.0)
    (passed-at b (lt_z (pos 0) product) _ _ c.one_more-second.ensures left.1)
    (passed-carried a (lt_z product (pos 0)) _ _ c.one_more-first.ensures left.0)
    (passed-carried b (lt_z (pos 0) product) _ _ c.one_more-second.ensures left.1)
    left.0 left.1 left.2
