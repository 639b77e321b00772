-- `longest` meets its contract. The invariant: the best pair of the places passed; the measure is how many steps are to come at most.
use Prim.Native.Nat.{◌+◌, ◌-◌, ◌<◌}
use native.Mathlib.Omega.{arith}
use Rattle.plane.specs.Point.{points}
use Rattle.measure.specs.Half.{HalfStep}
use Rattle.measure.specs.Scan.{HalfAt}
use Rattle.measure.specs.theory.Chains.{chains-found}
use Rattle.measure.proofs.Stepped.{half-edges, half-corners, half_room, half-on}
use Rattle.measure.proofs.Pairs.{search-next, search-done}
use Rattle.measure.proofs.longest.longest.Goals as goal
use Rattle.measure.proofs.longest.longest.Goals.{After-next-t}

pub top-top-requires : goal.top-top-requires
top-top-requires c = c.requires.shape.some

pub stride-from-requires : goal.stride-from-requires
stride-from-requires c =
    let v = c.requires in
    let chains = chains-found v.shape c.top-top.ensures in
    (record { valid = v; chains = chains; sides = c.sides-end.ensures }, c.count-n.ensures)

pub loop-s-init : goal.loop-s-init
loop-s-init c = c.stride-from.ensures

pub overflow_add-s : goal.overflow_add-s
overflow_add-s c = omega (arith, (half_room c.loop-s.invariant.half).0)

pub overflow_add-top : goal.overflow_add-top
overflow_add-top c = let inv = c.loop-s.invariant in omega (arith, (half_room inv.half).1, inv.sides)

pub goes_right-right-requires : goal.goes_right-right-requires
goes_right-right-requires c = half-edges c.loop-s.invariant.half

pub next-s-requires : goal.next-s-requires
next-s-requires c =
    let half = c.loop-s.invariant.half in (half.right_side, half.valid.in_range, half.valid.shape.some)

pub next-t-requires : goal.next-t-requires
next-t-requires c =
    let half = c.loop-s.invariant.half in
    (half.left-side, half.valid.in_range, half.valid.shape.some)

-- the step, and the two sides after it
goes_on : (c : After-next-t) →
    let top = c.top-top.result in
    let end = c.sides-end.result in
    let s = c.loop-s.s in
    let t = c.loop-s.t in
    let s' = c.next-s.result in
    let t' = c.next-t.result in
    let l = c.args.list.now in
    HalfStep (points l) top s.at t.at s'.at t'.at × HalfAt l top s' t'
    × (top + end - (s'.at + t'.at) < top + end - (s.at + t.at))
goes_on c =
    let inv = c.loop-s.invariant in
    half-on inv.half inv.sides (omega (arith, c.loop-s-test.true)) c.goes_right-right.ensures
    c.next-s.ensures c.next-t.ensures

pub apart-requires : goal.apart-requires
apart-requires c = half-corners (goes_on c).1

pub loop-s-smaller : goal.loop-s-smaller
loop-s-smaller c = (goes_on c.before.before).2

pub loop-s-preserved : goal.loop-s-preserved
loop-s-preserved c =
    let on = goes_on c.before.before in
    search-next c.loop-s.invariant on.1 on.0 c.apart.ensures
    c.better-best.ensures

pub returns : goal.returns
returns c = search-done c.loop-s.invariant (omega (arith, c.loop-s-test.false))
