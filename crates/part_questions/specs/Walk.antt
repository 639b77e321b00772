-- The walk of a caller as a state of the walk round two shapes (document 02, request W6).
use Rattle.calipers.specs.Walk.{Walk as State}
use Rattle.sums.specs.Advance.{state}
use Rattle.part_questions.specs.declared.walk.Walk.{Walk}

abbrev pub state_of : Walk → State
state_of w = state w.first w.second w.over
