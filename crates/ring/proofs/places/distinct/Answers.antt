-- `distinct` meets its contract: what was gathered, without a closing point.
use mathlib.Core.Path.{◌≡◌, sym, ◌∙◌, ap, ap₂, subst}
use mathlib.Core.Bool.{Bool, cond, ◌&&◌}
use mathlib.Core.List.{List, ◌∷◌}
use Prim.Native.Nat.{ℕ, ◌-◌, ◌<◌}
use native.Mathlib.Omega.{arith}
use lib.Dec.{ltb}
use lib.ListN.{length, get_or}
use Rattle.plane.specs.Point.{Point, points, corner, same_point}
use Rattle.plane.specs.Shape.{next}
use Rattle.plane.proofs.theory.lists.Next.{next-below}
use Rattle.ring.specs.Round.{closed, differing, distinct}
use Rattle.ring.specs.Ring.{walked}
use Rattle.ring.specs.Places.{Held}
use Rattle.ring.specs.theory.Buffers.{held-less, held-last}
use Rattle.ring.specs.theory.Steps.{closed_at, walked_whole}
use Rattle.ring.specs.theory.Under.{Under, under_at, under-weaken, walked-under, differing-under}
use Rattle.ring.proofs.places.distinct.Goals as goal
use Rattle.ring.proofs.places.distinct.Goals.{After-gather-count}

-- what was gathered
module _ (c : After-gather-count) where
  abbrev f : ℕ → Point
  f = corner (points c.args.list.now)

  abbrev all : List ℕ
  all =
      let n = c.args.n in
      let s = c.args.start in
      s ∷ differing f s (walked n (next n s) (n - 1))

  under : Under (length (points c.args.list.now)) all
  under =
      let n = c.args.n in
      let s = c.args.start in
      let b = length (points c.args.list.now) in (
        omega (arith, c.requires.0, c.requires.1),
        differing-under f b s (walked n (next n s) (n - 1)) (under-weaken n b (walked n (next n s) (n - 1)) c.requires.0
            (walked-under n (next n s) (n - 1) (next-below n s c.requires.1))),
      )

  last-is : get_or c.gather-count.new.kept (c.gather-count.result - 1) 0 ≡ get_or all (length all - 1) 0
  last-is = held-last c.gather-count.ensures (omega arith)

pub overflow_sub-count : goal.overflow_sub-count
overflow_sub-count c = omega (arith, c.gather-count.ensures.counted)

pub offset_bounds-kept-count : goal.offset_bounds-kept-count
offset_bounds-kept-count c =
    omega (arith, c.gather-count.ensures.counted, c.gather-count.ensures.fits, c.gather-count.auto.kept, c.well_formed.1.1.1.0)

pub bounds-kept-count : goal.bounds-kept-count
bounds-kept-count c =
    let held = c.gather-count.ensures in
    omega (arith, held.counted, held.fits)

pub less_closing-requires : goal.less_closing-requires
less_closing-requires c =
    let b = length (points c.args.list.now) in (
      omega (arith, c.requires.0, c.requires.1),
      subst (λ (i : ℕ). i < b) (sym (last-is (goal.at.less_closing-requires c).After-gather-count))
          (under_at b (all (goal.at.less_closing-requires c).After-gather-count)
          (under (goal.at.less_closing-requires c).After-gather-count)
          (length (all (goal.at.less_closing-requires c).After-gather-count) - 1) (omega arith)),
    )

pub returns : goal.returns
returns c =
    let n = c.args.n in
    let s = c.args.start in
    let ps = points c.args.list.now in
    let xs = all (goal.at.returns c).After-gather-count in
    let k = c.gather-count.result in
    let l = c.gather-count.new.kept in
    let counted = c.gather-count.ensures.counted in
    let test =
    ap₂ (λ (m i : ℕ). ltb 1 m && same_point (corner ps s) (corner ps i)) counted (last-is (goal.at.returns c).After-gather-count) ∙ sym
    (closed_at (f (goal.at.returns c).After-gather-count) 0 xs) in
    let count = c.less_closing.ensures ∙ ap (λ (t : Bool). cond t (k - 1) k) test in
    subst (λ (r : ℕ). Held (distinct (f (goal.at.returns c).After-gather-count) (walked n s n)) r l) (sym count)
    (subst (λ (w : List ℕ). Held (distinct (f (goal.at.returns c).After-gather-count) w)
    (cond (closed (f (goal.at.returns c).After-gather-count) xs) (k - 1) k) l)
    (sym (walked_whole n s (omega (arith, c.requires.1))))
    (held-less (closed (f (goal.at.returns c).After-gather-count) xs) c.gather-count.ensures))
