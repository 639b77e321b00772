-- An entry of a log: what is answered of what the inner functions find.
--     entry-damaged, entry-few, entry-room, entry_found     15, 20, 8, or the corners
use Rattle.std.specs.Prelude.{◌≡◌, Err, false, ℕ, ◌+◌, ◌/◌, ◌≤◌, ◌<◌, ltb, ℤ, get_or}
use Rattle.std.proofs.Math.Path.{sym, ap}
use Rattle.std.proofs.Common.{◌∙◌, arith}
use mathlib.Core.List.{List, [], ◌∷◌}
use borrow.Author.Tests.{lt-ltb, le-ltb}
use Rattle.std.proofs.Math.IntN.{pos}
use Rattle.std.proofs.Math.ListN.{length}
use Rattle.plane.specs.Point.{points, numbers}
use Rattle.plane.specs.Reply.{Reply, answered, refused, here, later}
use Rattle.plane.specs.Output.{no_room, overwritten}
use Rattle.plane.specs.Question.{Question, reply, output}
use Rattle.plane.proofs.theory.lists.Flat.{numbers-points, points-length}
use Rattle.endian.specs.Bytes.{words_at}
use Rattle.endian.specs.theory.Bytes.{words_at-length}
use Rattle.journal.specs.Format.{records, name, floor, list}
use Rattle.journal.specs.Reading.{damaged}
use Rattle.journal.specs.Current.{current, ask_entry}
use Rattle.journal.specs.Survey.{surveyed, EntryAt}
use Rattle.journal.specs.declared.head.Head.{Head}
use Rattle.journal.specs.declared.survey.Damaged.{Damaged}
use Rattle.journal.proofs.theory.Survey.{surveyed-bad}
use Rattle.admission.specs.theory.Judged.{refuses}
use Rattle.admission.specs.theory.Door.{rest-refused, all-written}

module _ (b : List ℕ) (k : ℕ) (out : List ℤ) where
  abbrev q : Question
  q = ask_entry b k out

  -- this reply, with this output
  abbrev Told : Reply → List ℤ → Type 0
  Told r o = (r ≡ reply q) × (o ≡ output q)

  abbrev all : ℕ
  all = length (current (records b))

  pub entry-damaged : (d : Damaged) → surveyed b ≡ Err d → Told (refused 15 (d.place ∷ [])) out
  entry-damaged d h =
      let s = surveyed-bad b d h in
      rest-refused q tt (record { by = _; first = here s.0; is = ap (λ (i : ℕ). refused 15 (i ∷ [])) (sym s.1) })

  module _ (sound : damaged (records b) ≡ false) where
    pub entry-few : all ≤ k → Told (refused 20 []) out
    entry-few h = rest-refused q tt (refuses {rows = q.rest} (later sound (here (lt-ltb all (1 + k) (omega arith)))))

    module _ (h : Head) (at : EntryAt b k h) where
      abbrev it : List ℕ
      it = get_or (current (records b)) k []

      abbrev found : List ℤ
      found = list it

      found-is : found ≡ words_at h.count b h.place
      found-is = ap list at.is ∙ at.stated.list-is

      count : length found ≡ h.count
      count = ap length found-is ∙ words_at-length b h.count h.place

      same : numbers (points found) ≡ found
      same = numbers-points found (omega (arith, count, at.stated.paired))

      enough : ltb all (1 + k) ≡ false
      enough = le-ltb all (1 + k) (omega (arith, at.enough))

      pub entry-room : length out < h.count → Told (refused 8 []) out
      unfolding no_room
      entry-room g = rest-refused q tt (refuses {rows = q.rest} (later sound (later enough
          (here (lt-ltb (length out) (length (numbers (points found))) (omega (arith, ap length same, count)))))))

      pub entry_found : h.count ≤ length out → {o : List ℤ} → o ≡ overwritten (words_at h.count b h.place) out
          → Told (answered (pos (h.count / 2) ∷ pos h.name ∷ pos h.floor ∷ [])) o
      unfolding no_room
      entry_found g {o} e =
          let large = le-ltb (length out) (length (numbers (points found))) (omega (arith, ap length same, count)) in
          let half : h.count / 2 ≡ length (points found) = sym (points-length found ∙ ap (λ (i : ℕ). i / 2) count) in
          let named : h.name ≡ name it = sym (ap name at.is ∙ at.stated.name-is) in
          let floored : h.floor ≡ floor it = sym (ap floor at.is ∙ at.stated.floor-is) in
          all-written q tt (sound, (enough, (large, tt)))
          (ap (λ (i : ℕ). pos i ∷ pos h.name ∷ pos h.floor ∷ []) half
          ∙ ap (λ (i : ℕ). pos (length (points found)) ∷ pos i ∷ pos h.floor ∷ []) named
          ∙ ap (λ (i : ℕ). pos (length (points found)) ∷ pos (name it) ∷ pos i ∷ []) floored)
          (e ∙ ap (λ (l : List ℤ). overwritten l out) (sym found-is ∙ sym same))
