-- `outermost` meets its contract. The invariant: the four positions are of the list.
use Rattle.std.proofs.Common.{arith}
use Rattle.polygon.specs.theory.Small.{small-corner}
use Rattle.sorting.proofs.interior.outermost.Goals as goal

pub northeast-requires : goal.northeast-requires
northeast-requires c = small-corner _ c.requires.1 _ c.requires.0 c.corner_at-p.ensures

pub northwest-requires : goal.northwest-requires
northwest-requires c = small-corner _ c.requires.1 _ c.requires.0 c.corner_at-p.ensures

pub southwest-requires : goal.southwest-requires
southwest-requires c = small-corner _ c.requires.1 _ c.requires.0 c.corner_at-p.ensures

pub southeast-requires : goal.southeast-requires
southeast-requires c = small-corner _ c.requires.1 _ c.requires.0 c.corner_at-p.ensures

pub northeast-requires-in-loop-i : goal.northeast-requires-in-loop-i
northeast-requires-in-loop-i c = small-corner _ c.requires.1 _ (omega arith) c.corner_at-q.ensures

pub northwest-requires-in-loop-i : goal.northwest-requires-in-loop-i
northwest-requires-in-loop-i c = small-corner _ c.requires.1 _ (omega arith) c.corner_at-q.ensures

pub southwest-requires-in-loop-i : goal.southwest-requires-in-loop-i
southwest-requires-in-loop-i c = small-corner _ c.requires.1 _ (omega arith) c.corner_at-q.ensures

pub southeast-requires-in-loop-i : goal.southeast-requires-in-loop-i
southeast-requires-in-loop-i c = small-corner _ c.requires.1 _ (omega arith) c.corner_at-q.ensures

pub loop-i-preserved : goal.loop-i-preserved
loop-i-preserved c =
    let n = c.count-n.result in
    let inv = c.loop-i.invariant in
    let within = c.loop-i-test.true in
    (c.or-a.ensures n inv.0 within, c.or-b.ensures n inv.1 within, c.or-c.ensures n inv.2 within, c.or-d.ensures n inv.3 within)
