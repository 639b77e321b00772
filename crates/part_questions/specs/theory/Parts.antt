-- A sum in parts: what is answered of the walk that went on.
--     part-off-place, part-surveyed       the walk is at no place; the sum is refused
--     part-little-room, part-done         no room for its corners; they are written; `part-idle`: there are none
use Rattle.std.specs.Prelude.{◌≡◌, true, false, not, List, [], ◌∷◌, ◌++◌, ◌⊎◌, ℕ, ◌*◌, ◌≤◌, ◌<◌, ℤ}
use Rattle.std.proofs.Common.{sym, ap, ap₂, arith, lt-ltb, le-ltb}
use Rattle.std.proofs.Math.IntN.{pos}
use Rattle.std.proofs.Math.ListN.{length}
use Rattle.plane.specs.Point.{Point, numbers}
use Rattle.plane.specs.Reply.{Reply, answered, refused, Row, row, NoneApply, here}
use Rattle.plane.specs.Floor.{Floored, Same}
use Rattle.plane.specs.Output.{no_room, size_rows, room_row, overwritten}
use Rattle.plane.specs.Question.{Question, reply, output}
use Rattle.plane.proofs.theory.lists.Flat.{numbers-length}
use Rattle.plane.proofs.theory.refusals.Rows.{none-join}
use Rattle.calipers.specs.Walk.{Walk}
use Rattle.sums.specs.PlaceAfter.{whole_sum, is_place}
use Rattle.parts.specs.Part.{part_corners, handed_back, walk_numbers, ask_part}
use Rattle.parts.proofs.theory.Parts.{part_none}
use Rattle.admission.specs.Admission.{Refuses}
use Rattle.admission.specs.theory.Judged.{refuses, refuses-append, refuses-join}
use Rattle.admission.specs.theory.Door.{rest-refused, all-written}

module _ (a b : Floored) (u : Walk) (k : ℕ) (old : List ℤ) (good : Same a b) where
  abbrev q : Question
  q = ask_part a b u k old

  -- the reply, and the whole output
  abbrev pub IsPart : Reply → List ℤ → Type 0
  IsPart r out = (r ≡ reply q) × (out ≡ output q)

  abbrev part : List Point
  part = part_corners a.list b.list u k

  abbrev off : Row
  off = row 14 (not (is_place a.list b.list u)) []

  abbrev size : List Row
  size = size_rows (whole_sum a.list b.list)

  pub part-off-place : is_place a.list b.list u ≡ false → IsPart (refused 14 []) old
  part-off-place e = rest-refused q good (refuses {rows = q.rest} (here (ap not e)))

  module _ (p : is_place a.list b.list u ≡ true) where
    placed : NoneApply (off ∷ [])
    placed = (ap not p, tt)

    pub part-surveyed : {r : Reply} → Refuses size r → IsPart r old
    part-surveyed f = rest-refused q good (refuses-join (off ∷ []) placed (refuses-append (room_row part old ∷ []) f))

    module _ (s : NoneApply size) where
      surveyed : NoneApply (off ∷ size)
      surveyed = none-join (off ∷ []) size placed s

      module _ {n : ℕ} (counted : n ≡ length part) where
        pub part-little-room : length old < 2 * n → IsPart (refused 8 []) old
        unfolding no_room
        part-little-room h = rest-refused q good (refuses-join (off ∷ size) surveyed (refuses {rows = room_row part old ∷ []}
            (here (lt-ltb (length old) (length (numbers part)) (omega (arith, counted, numbers-length part))))))

        pub part-done : 2 * n ≤ length old → {x : Walk} → x ≡ handed_back a.list b.list u k → {out : List ℤ}
            → out ≡ overwritten (numbers part) old → IsPart (answered (pos n ∷ walk_numbers x ++ (pos a.floor ∷ []))) out
        unfolding no_room
        part-done h e f = all-written q good
            (none-join (off ∷ size) (room_row part old ∷ []) surveyed
            (le-ltb (length old) (length (numbers part)) (omega (arith, counted, numbers-length part)), tt))
            (ap₂ (λ (m : ℕ) (y : Walk). pos m ∷ walk_numbers y ++ (pos a.floor ∷ [])) counted e) f

      -- nothing is written
      pub part-idle : (u.over ≡ true) ⊎ (k ≡ 0) → IsPart (answered (pos 0 ∷ walk_numbers u ++ (pos a.floor ∷ []))) old
      unfolding overwritten
      part-idle t =
          let r = part_none a.list b.list good.first-valid good.second-valid u k p t in
          part-done (ap length (sym r.0)) (omega arith) (sym r.1) (rw r.0)
