use Rattle.boxes.proofs.Walk.{Walk}
use Rattle.boxes.proofs.least_box.Given as goal

abbrev pub invariant-loop-edge : goal.invariant-loop-edge
invariant-loop-edge l = Walk l.list l.edge l.at l.best
