-- `trace` meets its contract: the different neighbours from the least on, then the corners among them.
use mathlib.Core.Path.{sym, ◌∙◌, ap, subst}
use mathlib.Core.List.{List}
use Prim.Native.Nat.{ℕ, ◌≤◌, ◌<◌}
use native.Mathlib.Omega.{arith}
use lib.ListN.{length}
use Rattle.plane.specs.Point.{Point, points, corner}
use Rattle.ring.specs.Round.{sensed, bends}
use Rattle.ring.specs.Ring.{ring_places}
use Rattle.ring.specs.Places.{Placed, Held}
use Rattle.ring.specs.theory.Steps.{opened-le, opened_some, least-below}
use Rattle.ring.specs.theory.Under.{under_at, places-under, places-some, places-few, places-are, corners-are}
use Rattle.ring.proofs.trace.Goals as goal
use Rattle.ring.proofs.trace.Goals.{After-distinct-m}

-- the positions that were found
module _ (c : After-distinct-m) where
  abbrev ps : List Point
  ps = points c.args.list.now

  found : Held (ring_places ps) c.distinct-m.result c.distinct-m.new.kept
  found =
      subst (λ (xs : List ℕ). Held xs c.distinct-m.result c.distinct-m.new.kept)
      (places-are ps c.args.n c.args.start c.requires.2.all c.requires.2.least) c.distinct-m.ensures

pub distinct-m-requires : goal.distinct-m-requires
distinct-m-requires c =
    let ps = points c.args.list.now in
    let all = c.requires.2.all in (
      omega (arith, all, opened-le (λ p. p) ps),
      subst (λ (k : ℕ). k < c.args.n) (sym c.requires.2.least)
          (least-below (corner ps) c.args.n (omega (arith, all, opened_some (λ p. p) ps c.requires.1))),
      omega (arith, c.requires.3),
    )

pub slice_bounds-corners-end-2 : goal.slice_bounds-corners-end-2
slice_bounds-corners-end-2 c =
    (found (goal.at.slice_bounds-corners-end-2 c).After-distinct-m).counted ∙ ap length
    (sym (found (goal.at.slice_bounds-corners-end-2 c).After-distinct-m).front)

pub corners-requires : goal.corners-requires
corners-requires c =
    let ps = points c.args.list.now in
    let front = sym (found (goal.at.corners-requires c).After-distinct-m).front in (
      subst (Placed c.args.list.now) front
          (record { near = c.requires.0; below = λ j h. under_at (length ps) (ring_places ps) (places-under ps c.requires.1) j h }),
      subst (λ (xs : List ℕ). 0 < length xs) front (places-some ps c.requires.1),
      subst (λ (xs : List ℕ). length xs ≤ length c.args.bent.now) front
          (omega (arith, places-few ps c.requires.1, c.requires.2.all, c.requires.4)),
    )

pub returns : goal.returns
returns c =
    let ps = points c.args.list.now in
    let f = corner ps in
    subst (λ (xs : List ℕ). Held xs c.corners.result c.corners.new.bent) (corners-are ps)
    (subst (λ (xs : List ℕ). Held (bends f (sensed f xs)) c.corners.result c.corners.new.bent)
    (found (goal.at.returns c).After-distinct-m).front c.corners.ensures)
