-- `traced_in` meets its contract: the positions of the corners are found, and then told.
use mathlib.Core.Path.{sym, ◌∙◌, ap}
use lib.ListN.{length}
use Rattle.shape_questions.proofs.rings.traced_in.Goals as goal

pub slice_bounds-told-end-2 : goal.slice_bounds-told-end-2
slice_bounds-told-end-2 c =
    let held = c.trace-m.ensures in
    held.counted ∙ ap length (sym held.front)
