-- Reading and adding: what is answered of what the inner functions find.
--     read-damaged, read-missing, read-room, read_found     15, 19, 8, or the corners
--     add-refused, add-damaged, add-full, add_done          1 to 5, 15, 16, or the stores
use Rattle.std.specs.Prelude.{◌≡◌, Err, refl, Bool, false, cond, ℕ, ◌-◌, ◌/◌, ◌≤◌, ◌<◌, leb, ltb, ℤ, take}
use Rattle.std.proofs.Math.Path.{sym, ap}
use Rattle.std.proofs.Common.{◌∙◌, ap₂, arith}
use Rattle.std.proofs.Math.Bool.{not}
use mathlib.Core.List.{List, [], ◌∷◌}
use borrow.Author.Tests.{lt-ltb, le-ltb}
use Rattle.std.proofs.Math.IntN.{pos}
use Rattle.std.proofs.Math.ListN.{length}
use Rattle.plane.specs.Point.{points, numbers}
use Rattle.plane.specs.Reply.{Reply, answered, refused, Row, row, first_row, here, later}
use Rattle.plane.specs.Refusal.{shape_rows, Valid}
use Rattle.plane.specs.Output.{no_room, overwritten}
use Rattle.plane.specs.Question.{Question, reply, output}
use Rattle.plane.proofs.theory.lists.Flat.{numbers-points, points-length}
use Rattle.plane.proofs.theory.refusals.Rows.{first_row-given, first_row-passed}
use Rattle.plane.proofs.theory.refusals.Accept.{valid→accepted}
use Rattle.endian.specs.Bytes.{words_at}
use Rattle.endian.specs.theory.Bytes.{words_at-length}
use Rattle.journal.specs.Format.{recorded, records}
use Rattle.journal.specs.Reading.{damaged, held, latest, damage_row, ask_read}
use Rattle.journal.specs.Adding.{end, stores, made, add_reply, unless_refusal, added}
use Rattle.journal.specs.Survey.{surveyed, LatestAt}
use Rattle.journal.specs.declared.survey.Damaged.{Damaged}
use Rattle.journal.specs.declared.latest.Found.{Found}
use Rattle.journal.proofs.theory.Survey.{surveyed-bad}
use Rattle.admission.specs.Admission.{Refuses}
use Rattle.admission.specs.theory.Judged.{refuses, refuses-append}
use Rattle.admission.specs.theory.Door.{rest-refused, all-written}

-- ---- reading

module _ (b : List ℕ) (n : ℕ) (out : List ℤ) where
  abbrev q : Question
  q = ask_read b n out

  -- this reply, with this output
  abbrev Read : Reply → List ℤ → Type 0
  Read r o = (r ≡ reply q) × (o ≡ output q)

  pub read-damaged : (d : Damaged) → surveyed b ≡ Err d → Read (refused 15 (d.place ∷ [])) out
  read-damaged d h =
      let s = surveyed-bad b d h in
      rest-refused q tt (record { by = _; first = here s.0; is = ap (λ (k : ℕ). refused 15 (k ∷ [])) (sym s.1) })

  module _ (sound : damaged (records b) ≡ false) where
    pub read-missing : held n (records b) ≡ false → Read (refused 19 []) out
    read-missing h = rest-refused q tt (refuses {rows = q.rest} (later sound (here (ap not h))))

    module _ (f : Found) (at : LatestAt n b f) where
      abbrev found : List ℤ
      found = (latest n (records b)).list

      count : length found ≡ f.count
      count = ap length at.list-is ∙ words_at-length b f.count f.place

      same : numbers (points found) ≡ found
      same = numbers-points found (omega (arith, count, at.paired))

      pub read-room : length out < f.count → Read (refused 8 []) out
      unfolding no_room
      read-room h = rest-refused q tt (refuses {rows = q.rest} (later sound (later (ap not at.has)
          (here (lt-ltb (length out) (length (numbers (points found))) (omega (arith, ap length same, count)))))))

      pub read_found : f.count ≤ length out → {o : List ℤ} → o ≡ overwritten (words_at f.count b f.place) out
          → Read (answered (pos (f.count / 2) ∷ pos f.floor ∷ [])) o
      unfolding no_room
      read_found h {o} e =
          let large = le-ltb (length out) (length (numbers (points found))) (omega (arith, ap length same, count)) in
          let half : f.count / 2 ≡ length (points found) = sym (points-length found ∙ ap (λ (k : ℕ). k / 2) count) in
          all-written q tt (sound, (ap not at.has, (large, tt)))
          (ap₂ (λ (k m : ℕ). pos k ∷ pos m ∷ []) half (sym at.floor-is))
          (e ∙ ap (λ (l : List ℤ). overwritten l out) (sym at.list-is ∙ sym same))

-- ---- adding

module _ (b : List ℕ) (n floor : ℕ) (l : List ℤ) (k : ℕ) where
  -- this reply, with this log
  abbrev Adds : Reply → List ℕ → Type 0
  Adds r c = (r ≡ (added b n floor l k).reply) × (c ≡ (added b n floor l k).log)

  abbrev all : List ℕ
  all = made (take k (stores b (recorded n floor l))) b

  -- the log follows from the reply
  follows : (r : Reply) (c : List ℕ) → r ≡ add_reply b n floor l k → c ≡ unless_refusal r b all → Adds r c
  unfolding added
  follows r c h e = (h, e ∙ ap (λ (x : Reply). unless_refusal x b all) h)

  abbrev full : Row
  full = row 16 (ltb (length b - end b) (length (recorded n floor l))) []

  abbrev done : Reply
  done = answered (cond (leb (length (stores b (recorded n floor l))) k) (pos 1) (pos 0) ∷ [])

  pub add-refused : {r : Reply} → Refuses (shape_rows 1 l) r → Adds r b
  unfolding add_reply
  add-refused {r} f =
      let more = refuses-append (damage_row b ∷ full ∷ []) f in
      follows r b (more.is ∙ sym (first_row-given done more.first)) (ap (λ (x : Reply). unless_refusal x b all) (sym f.is))

  module _ (v : Valid l) where
    past : first_row (damage_row b ∷ full ∷ []) done ≡ add_reply b n floor l k
    unfolding add_reply
    past = sym (first_row-passed (shape_rows 1 l) (damage_row b ∷ full ∷ []) done (valid→accepted l 1 v))

    pub add-damaged : (d : Damaged) → surveyed b ≡ Err d → Adds (refused 15 (d.place ∷ [])) b
    add-damaged d h =
        let s = surveyed-bad b d h in
        let given : refused 15 (d.place ∷ []) ≡ first_row (damage_row b ∷ full ∷ []) done =
        rw s.0 (ap (λ (q : ℕ). refused 15 (q ∷ [])) (sym s.1)) in
        follows (refused 15 (d.place ∷ [])) b (given ∙ past) refl

    module _ (sound : damaged (records b) ≡ false) where
      pub add-full : length b - end b < length (recorded n floor l) → Adds (refused 16 []) b
      add-full h =
          let small = lt-ltb (length b - end b) (length (recorded n floor l)) h in
          let given : refused 16 [] ≡ first_row (damage_row b ∷ full ∷ []) done = rw (sound, small) in
          follows (refused 16 []) b (given ∙ past) refl

      pub add_done : length (recorded n floor l) ≤ length b - end b → {r t : Bool} {c : List ℕ} → r ≡ t
          → r ≡ leb (length (stores b (recorded n floor l))) k → c ≡ all → Adds (answered (cond t (pos 1) (pos 0) ∷ [])) c
      add_done h {r} {t} {c} q e w =
          let large = le-ltb (length b - end b) (length (recorded n floor l)) h in
          let given : answered (cond t (pos 1) (pos 0) ∷ []) ≡ first_row (damage_row b ∷ full ∷ []) done =
          rw (sound, large) (ap (λ (x : Bool). answered (cond x (pos 1) (pos 0) ∷ [])) (sym q ∙ e)) in
          follows (answered (cond t (pos 1) (pos 0) ∷ [])) c (given ∙ past) w
