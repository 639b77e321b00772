-- `gather` meets its contract. The invariant: what is stored, and what is still to come on the way round, are all.
use mathlib.Core.Path.{◌≡◌, sym, ◌∙◌, ap, subst}
use mathlib.Core.Bool.{Bool, not}
use mathlib.Core.List.{List, ◌∷◌, ◌++◌}
use Prim.Native.Nat.{ℕ, ◌+◌, ◌-◌, ◌<◌}
use native.Mathlib.Omega.{arith}
use lib.ListN.{length, length-set}
use Rattle.plane.specs.Point.{points, corner}
use Rattle.plane.specs.Shape.{next}
use Rattle.ring.specs.Round.{optional, differing}
use Rattle.ring.specs.Ring.{walked}
use Rattle.ring.specs.theory.Buffers.{Coming, coming-keep, coming-end, coming-put}
use Rattle.ring.specs.theory.Steps.{walked_step}
use Rattle.ring.proofs.places.gather.Goals as goal
use Rattle.ring.proofs.places.gather.Goals.{In-loop, Start}

-- all that is to be stored
abbrev total : Start → List ℕ
total c =
    c.args.start
    ∷ differing (corner (points c.args.list.now)) c.args.start
    (walked c.args.n (next c.args.n c.args.start) (c.args.n - 1))

-- the buffer has room for one more
room : (c : In-loop) → c.loop.count < length c.loop.kept
room c =
    omega (arith, c.requires.2, c.loop.invariant.2, length-set c.args.kept.now 0 c.args.start)

pub loop-init : goal.loop-init
loop-init c =
    let args = c.args in (
      coming-put args.start _ args.kept.now (omega (arith, c.requires.1, c.requires.2)),
      c.requires.1,
      omega arith,
    )

pub keep-count-requires : goal.keep-count-requires
keep-count-requires c = room (goal.at.keep-count-requires c).In-loop

pub loop-preserved : goal.loop-preserved
loop-preserved c =
    let n = c.args.n in
    let f = corner (points c.args.list.now) in
    let from = c.loop.from in
    let to = c.next-to.result in
    let is = c.next-to.ensures.value in
    let rest = differing f to (walked n (next n to) (n - (c.loop.counter + 1))) in
    let coming =
    ap (λ (k : ℕ). differing f from (walked n k (n - c.loop.counter))) (sym is)
    ∙ ap (differing f from) (walked_step n to c.loop.counter (omega arith))
    ∙ ap (λ (b : Bool). optional (not b) to ++ rest) (sym c.same_at.ensures) in (
      coming-keep (not c.same_at.result) to (subst (λ (r : List ℕ). Coming (total (goal.at.loop-preserved c).Start) r c.loop.count
          c.loop.kept) coming c.loop.invariant.0)
          c.keep-count.ensures.0
          (omega (arith, c.keep-count.ensures.1, c.keep-count.ensures.2, room (goal.at.loop-preserved c).In-loop)),
      c.next-to.ensures.upper_bound,
      omega (arith, c.keep-count.ensures.1, c.loop.invariant.2),
    )

pub returns : goal.returns
returns c =
    let n = c.args.n in
    let over : n - c.loop.counter ≡ 0 = omega arith in
    let f = corner (points c.args.list.now) in
    let from = c.loop.from in
    coming-end (subst (λ (k : ℕ). Coming (total (goal.at.returns c).Start) (differing f from (walked n (next n from) k)) c.loop.count
    c.loop.kept) over
    c.loop.invariant.0)
