-- What a ring is refused and answered by, after rows 1 to 3.
--     inward-refuses     a corner that turns in is 4, with the position of the corner before it and its own
--     none-inward        where the search ends past the last, none does
--     room-refuses       if none does, too little room is 8
--     ring-passes        else no row applies
--     counted-shape      the shape has as many corners as positions
use Rattle.std.specs.Prelude.{◌≡◌, true, false, List, [], ◌∷◌, ℕ, ◌*◌, ◌≤◌, ◌<◌, ℤ, length, get_or}
use Rattle.std.proofs.Common.{◌∙◌, ap, arith, lt-ltb, le-ltb}
use Rattle.std.proofs.lemmas.List.{length-map}
use Rattle.plane.specs.Point.{points, numbers, corner}
use Rattle.plane.specs.Reply.{refused, NoneApply, here, later}
use Rattle.plane.specs.Search.{some}
use Rattle.plane.specs.Output.{no_room, room_row}
use Rattle.plane.proofs.theory.lists.Flat.{numbers-length}
use Rattle.plane.proofs.theory.lists.Sought.{some-here, none-some, first-true, first-least}
use Rattle.plane.proofs.theory.refusals.Rows.{none-join}
use Rattle.admission.specs.Admission.{Refuses}
use Rattle.admission.specs.theory.Judged.{refuses, refuses-join}
use Rattle.ring.specs.Ring.{previous, ring_corners, ring_shape, inward_at, first_inward, inward_row, list_rows, ring_rows, ValidRing}
use Rattle.ring.specs.theory.Rows.{ring→accepted}

module _ (l out : List ℤ) (v : ValidRing l) where
  abbrev is : List ℕ
  is = ring_corners (points l)

  abbrev at : ℕ
  at = first_inward (points l) is

  pub counted-shape : length (numbers (ring_shape (points l))) ≡ 2 * length is
  counted-shape = numbers-length (ring_shape (points l)) ∙ ap (λ (n : ℕ). 2 * n) (length-map is (corner (points l)))

  some-inward : at < length is → some (inward_at (points l) is) (length is) ≡ true
  unfolding first_inward
  some-inward h = some-here (inward_at (points l) is) (length is) at h (first-true (inward_at (points l) is) (length is) h)

  pub none-inward : length is ≤ at → some (inward_at (points l) is) (length is) ≡ false
  unfolding first_inward
  none-inward h =
      none-some (inward_at (points l) is) (length is) (λ i k. first-least (inward_at (points l) is) (length is) i (omega arith))

  pub inward-refuses : at < length is → Refuses (ring_rows l out)
      (refused 4 (1 ∷ get_or is (previous (length is) at) 0 ∷ get_or is at 0 ∷ []))
  inward-refuses h = refuses-join (list_rows l) (ring→accepted l v) (refuses (here (some-inward h)))

  module _ (quiet : some (inward_at (points l) is) (length is) ≡ false) where
    pub room-refuses : length out < 2 * length is → Refuses (ring_rows l out) (refused 8 [])
    unfolding no_room
    room-refuses h =
        refuses-join (list_rows l) (ring→accepted l v)
        (refuses (later quiet (here (lt-ltb (length out) (length (numbers (ring_shape (points l))))
        (omega (arith, counted-shape))))))

    pub ring-passes : 2 * length is ≤ length out → NoneApply (ring_rows l out)
    unfolding no_room
    ring-passes h =
        none-join (list_rows l) (inward_row (points l) ∷ room_row (ring_shape (points l)) out ∷ []) (ring→accepted l v)
        (quiet, (le-ltb (length out) (length (numbers (ring_shape (points l)))) (omega (arith, counted-shape)), tt))
