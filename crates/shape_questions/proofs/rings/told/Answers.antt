-- `told` meets its contract: a corner that turns in is 4, too little room is 8, and else the corners are written.
use mathlib.Core.Path.{◌≡◌, sym, ◌∙◌, ap, subst}
use mathlib.Core.Bool.{false}
use mathlib.Core.List.{List, [], ◌∷◌, map}
use Prim.Native.Nat.{ℕ, ◌*◌, ◌≤◌, ◌<◌}
use lib.IntN.{pos}
use lib.ListN.{length, get_or, length-map}
use Rattle.plane.specs.Point.{Point, points, numbers, corner}
use Rattle.plane.specs.Reply.{Reply, refused}
use Rattle.plane.specs.Output.{overwritten}
use Rattle.plane.specs.Floor.{on}
use Rattle.plane.specs.Question.{Question}
use Rattle.admission.specs.Admission.{Refuses}
use Rattle.admission.specs.theory.Door.{rest-refused, all-written}
use Rattle.ring.specs.Ring.{previous, ring_corners, first_inward, inward_row, ring_rows, ask_ring}
use Rattle.ring.specs.Places.{Placed}
use Rattle.ring.specs.theory.Under.{under_at, corners-under}
use Rattle.ring.specs.theory.Answers.{none-inward, inward-refuses, room-refuses, ring-passes}
use Rattle.shape_questions.proofs.rings.told.Goals as goal
use Rattle.shape_questions.proofs.rings.told.Goals.{Else-at-n, Start}

-- the question, and the positions
module _ (c : Start) where
  abbrev asked : Question
  asked = ask_ring (on c.args.list.now c.args.floor) c.args.out.now

  abbrev ps : List Point
  ps = points c.args.list.now

  placed : Placed c.args.list.now c.args.places.now
  placed = subst (Placed c.args.list.now) (sym c.requires.1) (record {
    near = c.requires.0.in_range;
    below = λ j h. under_at (length ps) (ring_corners ps) (corners-under ps c.requires.0.some) j h;
  })

-- what 4 carries, of positions xs at place i
abbrev carried : List ℕ → ℕ → Reply
carried xs i = refused 4 (1 ∷ get_or xs (previous (length xs) i) 0 ∷ get_or xs i 0 ∷ [])

pub find-at-requires : goal.find-at-requires
find-at-requires c = placed (goal.at.find-at-requires c).Start

pub returns-then-at-n : goal.returns-then-at-n
returns-then-at-n c =
    let qs = ps (goal.at.returns-then-at-n c).Start in
    let places = c.args.places.now in
    let e = c.requires.1 in
    let i = c.find-at.result in
    let inside = subst (λ (xs : List ℕ). first_inward qs xs < length xs) e
    (subst (λ (k : ℕ). k < length places) c.find-at.ensures c.if-at-n.true) in
    let same = ap (λ (xs : List ℕ). carried xs (first_inward qs xs)) (sym e) ∙ ap (carried places) (sym c.find-at.ensures)
    ∙ ap (λ (k : ℕ). refused 4 (1 ∷ get_or places k 0 ∷ get_or places i 0 ∷ [])) (sym c.previous.ensures.value) in
    rest-refused (asked (goal.at.returns-then-at-n c).Start) tt (subst (Refuses (ring_rows c.args.list.now c.args.out.now)) same
    (inward-refuses c.args.list.now c.args.out.now c.requires.0 inside))

-- past the first test no corner turns in
quiet : (c : Else-at-n) → (inward_row (ps (goal.at.Else-at-n c).Start)).applies ≡ false
quiet c =
    none-inward c.args.list.now c.args.out.now c.requires.0
    (subst (λ (xs : List ℕ). length xs ≤ first_inward (ps (goal.at.Else-at-n c).Start) xs) c.requires.1
    (subst (λ (k : ℕ). length c.args.places.now ≤ k) c.find-at.ensures c.if-at-n.false))

pub returns-then-out-n : goal.returns-then-out-n
returns-then-out-n c =
    rest-refused (asked (goal.at.returns-then-out-n c).Start) tt
    (room-refuses c.args.list.now c.args.out.now c.requires.0 (quiet (goal.at.returns-then-out-n c).Else-at-n)
    (subst (λ (xs : List ℕ). length c.args.out.now < 2 * length xs) c.requires.1 c.if-out-n.true))

pub write-requires : goal.write-requires
write-requires c = (placed (goal.at.write-requires c).Start, c.if-out-n.false)

pub returns : goal.returns
returns c =
    let f = corner (ps (goal.at.returns c).Start) in
    let e = c.requires.1 in
    let room = subst (λ (xs : List ℕ). 2 * length xs ≤ length c.args.out.now) e c.if-out-n.false in
    all-written (asked (goal.at.returns c).Start) tt
    (ring-passes c.args.list.now c.args.out.now c.requires.0 (quiet (goal.at.returns c).Else-at-n) room)
    (ap (λ (n : ℕ). pos n ∷ pos c.args.floor ∷ []) (ap length e ∙ sym (length-map (ring_corners (ps (goal.at.returns c).Start)) f)))
    (c.write.ensures ∙ ap (λ (xs : List ℕ). overwritten (numbers (map f xs)) c.args.out.now) e)
