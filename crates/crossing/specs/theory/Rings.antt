-- A ring on a floor that is any number: 13 for one above its limit comes after 1 to 3.
--     ring-within     on a floor within its limit nothing changes
--     ring-above      above it, 1 to 3 are judged, and then 13 is due; the output stays as it was
--     ring-barred     13 after points that pass
use Rattle.std.specs.Prelude.{◌≡◌, Bool, true, false, cond, List, [], ◌∷◌, ℕ, ltb, ℤ}
use Rattle.std.proofs.Math.Path.{sym, ap}
use Rattle.std.proofs.Common.{◌∙◌}
use Rattle.plane.specs.Limits.{max_floor}
use Rattle.plane.specs.Reply.{Reply, answered, refused, Row, row, first_row}
use Rattle.plane.specs.Output.{room_row}
use Rattle.plane.specs.Floor.{Floored, corners}
use Rattle.plane.specs.Question.{values, reply, output}
use Rattle.plane.proofs.theory.refusals.Rows.{first_row-append, first_row-none}
use Rattle.ring.specs.Ring.{ring_shape, inward_row, list_rows, ValidRing, ask_ring}
use Rattle.ring.specs.theory.Rows.{ring→accepted}
use Rattle.wire.specs.Told.{crossed}
use Rattle.crossing.specs.LowFloor.{low_ring, barred}
use Rattle.crossing.specs.theory.Low.{skipped-reply, skipped-output}
use Rattle.crossing.specs.theory.High.{barred-kept}

pub ring-barred : (l : List ℤ) → ValidRing l → refused 13 [] ≡ barred (list_rows l)
ring-barred l v = sym (first_row-none (list_rows l) _ (ring→accepted l v))

module _ (a : Floored) (old : List ℤ) where
  -- the rows after 1 to 3
  abbrev later : List Row
  later = inward_row (corners a) ∷ room_row (ring_shape (corners a)) old ∷ []

  abbrev high : Row
  high = row 13 (ltb max_floor a.floor) []

  pub ring-within : ltb max_floor a.floor ≡ false → {x : Reply} {ns : List ℕ} {out : List ℤ} → ns ≡ crossed x
      → (x ≡ reply (ask_ring a old)) × (out ≡ output (ask_ring a old)) → (ns ≡ crossed (reply (low_ring a old))) ×
      (out ≡ output (low_ring a old))
  unfolding reply output low_ring
  ring-within low n e = (
    n ∙ ap crossed (e.0 ∙ skipped-reply high later low (list_rows a.list) _),
    e.1 ∙ skipped-output high later low (list_rows a.list) _ _,
  )

  high-reply : ltb max_floor a.floor ≡ true → barred (list_rows a.list) ≡ reply (low_ring a old)
  unfolding reply low_ring
  high-reply e =
      let answer = answered (values (ask_ring a old)) in
      ap (λ (b : Bool). first_row (list_rows a.list) (cond b (refused 13 []) (first_row later answer))) (sym e)
      ∙ sym (first_row-append (list_rows a.list) (high ∷ later) answer)

  pub ring-above : ltb max_floor a.floor ≡ true → {ns : List ℕ} → ns ≡ crossed (barred (list_rows a.list))
      → (ns ≡ crossed (reply (low_ring a old))) × (old ≡ output (low_ring a old))
  unfolding low_ring
  ring-above e n =
      let told = high-reply e in (n ∙ ap crossed told, barred-kept (low_ring a old) (list_rows a.list) told)
