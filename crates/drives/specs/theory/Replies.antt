-- What is replied of a drive.
--     drive-admitted, drive-answers    an answer is given exactly if no row applies
--     drive-refused, drive-damaged, drive-empty, drive-far, drive-beyond, drive-large, drive-found     row by row, as the code asks
--     empty-refused, departure-refused, destination-refused     20 and 3
use Rattle.std.specs.Prelude.{◌≡◌, true, false, List, [], ◌∷◌, ◌++◌, ℕ, ◌<◌, ltb, ℤ, pos, length, Err}
use Rattle.std.proofs.Common.{sym, ◌∙◌, ap, le-ltb}
use Rattle.plane.specs.Point.{Point}
use Rattle.plane.specs.Refusal.{some_outside, shape_rows, Valid}
use Rattle.plane.specs.Reply.{Reply, answered, refused, here, later, NoneApply}
use Rattle.plane.specs.Floor.{Floored, corners}
use Rattle.plane.specs.Question.{Question, reply}
use Rattle.plane.proofs.theory.refusals.Asked.{asked-given, asked-none, asked-shapes, asked-rest, rest-given, rest-none}
use Rattle.admission.specs.Admission.{Refuses}
use Rattle.admission.specs.theory.Judged.{refuses-append, refuses-join}
use Rattle.admission.specs.theory.Door.{shapes-refused, rest-refused}
use Rattle.journal.specs.Format.{records}
use Rattle.journal.specs.Reading.{damaged, damage_row}
use Rattle.journal.specs.Current.{too_few_row}
use Rattle.journal.specs.Survey.{surveyed}
use Rattle.journal.specs.declared.survey.Damaged.{Damaged}
use Rattle.motion.specs.Contact.{place_row}
use Rattle.gaps.specs.Gap.{on_floor, size_rows_of}
use Rattle.gaps.proofs.theory.Replies.{damage-refuses}
use Rattle.drives.specs.Drive.{drive_numbers, drive_rows, ask_drive}

module _ (b : List ℕ) (cart : Floored) (t u : Point) where
  abbrev rs : List (List ℕ)
  rs = on_floor cart.floor b

  abbrev q : Question
  q = ask_drive b cart t u

  pub drive-admitted : (v : List ℤ) → reply q ≡ answered v → Valid cart.list × NoneApply (drive_rows b cart t u)
  drive-admitted v h = (asked-shapes q v h, asked-rest q v h)

  pub drive-answers : Valid cart.list → NoneApply (drive_rows b cart t u)
      → reply q ≡ answered (drive_numbers (corners cart) t u rs ++ (pos cart.floor ∷ []))
  drive-answers v n = asked-none q (rest-none q v n)

  pub drive-refused : {r : Reply} → Refuses (shape_rows 1 cart.list) r → r ≡ reply q
  drive-refused x = (shapes-refused q x).0

  module _ (v : Valid cart.list) where
    pub drive-damaged : (d : Damaged) → surveyed b ≡ Err d → refused 15 (d.place ∷ []) ≡ reply q
    drive-damaged d h = (rest-refused q v (damage-refuses b d _ h)).0

    module _ (sound : damaged (records b) ≡ false) where
      -- by the test of the code
      pub drive-empty : ltb (length rs) 1 ≡ true → refused 20 [] ≡ reply q
      drive-empty h = sym (asked-given q (rest-given q v (later sound (here h))))

      pub empty-refused : rs ≡ [] → reply q ≡ refused 20 []
      empty-refused e = sym (drive-empty (ap (λ (ss : List (List ℕ)). ltb (length ss) 1) e))

      module _ (some : 0 < length rs) where
        enough : ltb (length rs) 1 ≡ false
        enough = le-ltb (length rs) 1 some

        pub departure-refused : some_outside (t.x ∷ t.y ∷ []) ≡ true → reply q ≡ refused 3 (2 ∷ [])
        departure-refused h = asked-given q (rest-given q v (later sound (later enough (here h))))

        pub destination-refused : some_outside (t.x ∷ t.y ∷ []) ≡ false → some_outside (u.x ∷ u.y ∷ []) ≡ true
            → reply q ≡ refused 3 (3 ∷ [])
        destination-refused near h = asked-given q (rest-given q v (later sound (later enough (later near (here h)))))

      -- the rows as the code asks them, one after another
      module _ (some : ltb (length rs) 1 ≡ false) where
        pub drive-far : {r : Reply} → Refuses (place_row 2 t ∷ []) r → r ≡ reply q
        drive-far x = (rest-refused q v (refuses-join (damage_row b ∷ too_few_row 1 rs ∷ []) (sound, (some, tt))
            (refuses-append (place_row 3 u ∷ size_rows_of (corners cart) rs) x))).0

        module _ (near : some_outside (t.x ∷ t.y ∷ []) ≡ false) where
          pub drive-beyond : {r : Reply} → Refuses (place_row 3 u ∷ []) r → r ≡ reply q
          drive-beyond x = (rest-refused q v
              (refuses-join (damage_row b ∷ too_few_row 1 rs ∷ place_row 2 t ∷ []) (sound, (some, (near, tt)))
              (refuses-append (size_rows_of (corners cart) rs) x))).0

          module _ (by : some_outside (u.x ∷ u.y ∷ []) ≡ false) where
            pub drive-large : {r : Reply} → Refuses (size_rows_of (corners cart) rs) r → r ≡ reply q
            drive-large x = (rest-refused q v
                (refuses-join (damage_row b ∷ too_few_row 1 rs ∷ place_row 2 t ∷ place_row 3 u ∷ []) (sound, (some, (near, (by, tt)))) x)).0

            pub drive-found : NoneApply (size_rows_of (corners cart) rs) → {vs : List ℤ} → vs ≡ drive_numbers (corners cart) t u rs
                → answered (vs ++ (pos cart.floor ∷ [])) ≡ reply q
            drive-found sized e = ap (λ (ns : List ℤ). answered (ns ++ (pos cart.floor ∷ []))) e
                ∙ sym (drive-answers v (sound, (some, (near, (by, sized)))))
