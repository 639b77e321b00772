-- `shown` meets its contract: no corner of a shape turns in, so that too little room is 8, and else the corners are written.
use mathlib.Core.Path.{◌≡◌, ◌∙◌, ap}
use mathlib.Core.Bool.{false}
use mathlib.Core.List.{List, [], ◌∷◌}
use Prim.Native.Nat.{ℕ}
use native.Mathlib.Omega.{arith}
use lib.IntN.{pos}
use lib.ListN.{length}
use Rattle.plane.specs.Point.{Point, points, numbers}
use Rattle.plane.specs.Floor.{on}
use Rattle.plane.specs.Output.{overwritten}
use Rattle.plane.specs.Question.{Question}
use Rattle.plane.proofs.theory.lists.Flat.{points-numbers, numbers-length}
use Rattle.delivery.specs.theory.Delivery.{copied}
use Rattle.admission.specs.theory.Door.{rest-refused, all-written}
use Rattle.ring.specs.Ring.{ring_shape, inward_row, ask_ring}
use Rattle.ring.specs.theory.Outline.{shape→quiet}
use Rattle.ring.specs.theory.Answers.{counted-shape, room-refuses, ring-passes}
use Rattle.shape_questions.proofs.rings.shown.Goals as goal
use Rattle.shape_questions.proofs.rings.shown.Goals.{Start}

module _ (c : Start) where
  abbrev asked : Question
  asked = ask_ring (on c.args.list.now c.args.floor) c.args.out.now

  abbrev ps : List Point
  ps = points c.args.list.now

  quiet : (inward_row ps).applies ≡ false
  quiet = shape→quiet ps c.requires.0.some c.requires.2

  -- the list that is lent holds the corners
  read : points c.args.shape.now ≡ ring_shape ps
  read = ap points c.requires.1 ∙ points-numbers (ring_shape ps)

pub returns-then-out-shape : goal.returns-then-out-shape
returns-then-out-shape c =
    let l = c.args.list.now in
    let out = c.args.out.now in
    rest-refused (asked c.before) tt (room-refuses l out c.requires.0 (quiet c.before)
    (omega (arith, c.if-out-shape.true, ap length c.requires.1, counted-shape l out c.requires.0)))

pub returns : goal.returns
returns c =
    let l = c.args.list.now in
    let out = c.args.out.now in
    let shape = c.args.shape.now in
    let all = ap length c.requires.1 in
    all-written (asked c.before.before.before.before.before) tt
    (ring-passes l out c.requires.0 (quiet c.before.before.before.before.before)
    (omega (arith, c.if-out-shape.false, all, counted-shape l out c.requires.0)))
    (ap (λ (n : ℕ). pos n ∷ pos c.args.floor ∷ []) (c.count.ensures ∙ ap length (read c.before.before.before.before.before)))
    (copied shape (omega (arith, all, numbers-length (ring_shape (ps c.before.before.before.before.before)))) out c.copy.ensures
    ∙ ap (λ (qs : List Point). overwritten (numbers qs) out) (read c.before.before.before.before.before))
