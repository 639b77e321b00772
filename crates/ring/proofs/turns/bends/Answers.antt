-- `bends` meets its contract. The invariant: what is stored, and the corners from j on, are all.
use mathlib.Core.Path.{◌≡◌, sym, ◌∙◌, ap, ap₂, subst}
use mathlib.Core.Bool.{Bool, not}
use mathlib.Core.List.{List, ◌++◌}
use Prim.Native.Nat.{ℕ, ◌+◌, ◌<◌, zero-le}
use native.Mathlib.Omega.{arith}
use lib.ListN.{length, get_or, drop}
use lib.Seq.{drop-length}
use Rattle.plane.specs.Point.{points, corner}
use Rattle.plane.specs.Shape.{next}
use Rattle.ring.specs.Round.{in_sense, optional, straight, bending, bends}
use Rattle.ring.specs.Ring.{previous}
use Rattle.ring.specs.theory.Buffers.{Coming, coming-keep, coming-end}
use Rattle.ring.specs.theory.Steps.{sense-length, bends-start, bends-step}
use Rattle.ring.proofs.turns.bends.Goals as goal
use Rattle.ring.proofs.turns.bends.Goals.{In-loop-j, Start}

-- the list in its sense
abbrev sense : Start → List ℕ
sense c = in_sense c.args.back c.args.kept.now

pub loop-j-init : goal.loop-j-init
loop-j-init c = (
  record { joined = bends-start (corner (points c.args.list.now)) (sense (goal.at.loop-j-init c).Start); within = zero-le },
  zero-le,
)

-- the buffer has room for one more
room : (c : In-loop-j) → c.loop-j.count < length c.loop-j.bent
room c =
    omega (arith, c.loop-j-test.true, c.requires.1, c.loop-j.invariant.1)

pub keep-count-requires : goal.keep-count-requires
keep-count-requires c = room (goal.at.keep-count-requires c).In-loop-j

pub loop-j-preserved : goal.loop-j-preserved
loop-j-preserved c =
    let f = corner (points c.args.list.now) in
    let xs = sense (goal.at.loop-j-preserved c).Start in
    let j = c.loop-j.j in
    let all = sense-length c.args.back c.args.kept.now in
    let inside : j < length xs = omega (arith, all, c.loop-j-test.true) in
    let bend = c.bends_at-bend.ensures
    ∙ ap (λ (n : ℕ). not (straight (f (get_or xs (previous n j) 0)) (f (get_or xs j 0)) (f (get_or xs (next n j) 0)))) (sym all) in
    let rest = bending f (get_or xs (previous (length xs) (j + 1)) 0) (drop (j + 1) xs) (get_or xs 0 0) in
    let coming = bends-step f xs j inside
    ∙ ap₂ (λ (b : Bool) (x : ℕ). optional b x ++ rest) (sym bend) (sym c.place.ensures) in (
      coming-keep c.bends_at-bend.result c.place.result
          (subst (λ (r : List ℕ). Coming (bends f xs) r c.loop-j.count c.loop-j.bent) coming c.loop-j.invariant.0)
          c.keep-count.ensures.0
          (omega (arith, c.keep-count.ensures.1, c.keep-count.ensures.2, room (goal.at.loop-j-preserved c).In-loop-j)),
      omega (arith, c.keep-count.ensures.1, c.loop-j.invariant.1),
    )

pub returns : goal.returns
returns c =
    let f = corner (points c.args.list.now) in
    let xs = sense (goal.at.returns c).Start in
    let whole : c.loop-j.j ≡ length xs =
    omega (arith, c.loop-j-test.false, sense-length c.args.back c.args.kept.now) in
    let over = ap (λ (i : ℕ). drop i xs) whole ∙ drop-length xs in
    coming-end (subst (λ (l : List ℕ). Coming (bends f xs)
    (bending f (get_or xs (previous (length xs) c.loop-j.j) 0) l (get_or xs 0 0)) c.loop-j.count c.loop-j.bent) over
    c.loop-j.invariant.0)
