-- The mirror image of a valid list keeps the limits of an answer (document 01, "Mirror").
--     mirror-few, mirror-near     rows 6 and 7 do not apply to it
--     mirror-little               row 8 is the first that applies where the output holds fewer numbers than the list's corners
--     mirror-enough               else none does
use Rattle.std.specs.Prelude.{◌≡◌, true, false, List, ℕ, ◌*◌, ◌≤◌, ◌<◌, ℤ, length}
use Rattle.std.proofs.Common.{sym, ◌∙◌, ap, subst, arith}
use borrow.Author.Tests.{lt-ltb, le-ltb}
use Rattle.integer.specs.Bound.{within-neg}
use Rattle.plane.specs.Limits.{max_corners}
use Rattle.plane.specs.Point.{Point, points, numbers, corner, opposite}
use Rattle.plane.specs.Reply.{NoneApply, First, here, later}
use Rattle.plane.specs.Refusal.{too_many, some_outside, InRange, Valid}
use Rattle.plane.specs.Corner.{shape_of, mirrored}
use Rattle.plane.specs.Output.{no_room, room_row, answer_rows}
use Rattle.plane.proofs.theory.lists.Flat.{numbers-in_range, Near, points_near, numbers-length}
use Rattle.plane.proofs.theory.refusals.Accept.{in_range→near}
use Rattle.plane.proofs.theory.lists.Turned.{turned-below}
use Rattle.plane.proofs.theory.mirror.Mirror.{topmost, mirrored_from, mirrored_from-length, mirrored_from-at, mirror-known}
use Rattle.plane.proofs.theory.mirror.Mirror.{mirror-count}

-- ---- rows 6 and 7

near-opposite : (p : Point) → Near p → Near (opposite p)
near-opposite p n = record { near-x = within-neg n.near-x; near-y = within-neg n.near-y }

-- corners in range make numbers in range
module _ (l : List ℤ) (v : Valid l) where
  abbrev image : List Point
  image = shape_of (mirrored (points l))

  mirrored_from-in_range : (t : ℕ) → t < length (points l) → InRange (numbers (mirrored_from (points l) t))
  mirrored_from-in_range t h = numbers-in_range (mirrored_from (points l) t)
      (λ k b. near k (omega (arith, mirrored_from-length (points l) t h)))
    where
      near : (k : ℕ) → k < length (points l) → Near (corner (mirrored_from (points l) t) k)
      near k b = subst Near (sym (mirrored_from-at (points l) t h k b))
          (near-opposite _ (points_near l v.in_range _ (turned-below (length (points l)) t h k b)))

  pub mirror-few : too_many (shape_of (mirrored (points l))) ≡ false
  unfolding too_many
  mirror-few = le-ltb max_corners (length image) (omega (arith, mirror-count (points l) v.shape, v.few))

  pub mirror-near : some_outside (numbers (shape_of (mirrored (points l)))) ≡ false
  mirror-near =
      let top = topmost (points l) v.shape in
      ap (λ ps. some_outside (numbers ps)) (mirror-known (points l) v.shape top.0 top.1)
      ∙ in_range→near _ (mirrored_from-in_range top.0 top.1.within)

  -- ---- row 8, or none

  numbers-count : length (numbers image) ≡ 2 * length (points l)
  numbers-count = numbers-length image ∙ ap (λ n. 2 * n) (mirror-count (points l) v.shape)

  module _ (out : List ℤ) where
    little : length out < 2 * length (points l) → no_room image out ≡ true
    unfolding no_room
    little h = lt-ltb (length out) (length (numbers image)) (omega (arith, numbers-count))

    enough : 2 * length (points l) ≤ length out → no_room image out ≡ false
    unfolding no_room
    enough h = le-ltb (length out) (length (numbers image)) (omega (arith, numbers-count))

    pub mirror-little : length out < 2 * length (points l) → First (room_row image out) (answer_rows image out)
    mirror-little h = later mirror-few (later mirror-near (here (little h)))

    pub mirror-enough : 2 * length (points l) ≤ length out → NoneApply (answer_rows image out)
    mirror-enough h = (mirror-few, (mirror-near, (enough h, tt)))
