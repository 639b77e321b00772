-- What is replied of a gap, row by row.
--     damage-refuses                                   rows that begin with 15, of a damaged log
--     gap-refused, gap-damaged, gap-few, gap-large     1 to 5 of the cart, 15, 20, and 6 or 7 of a grown shape
--     gap-found                                        else the narrowest gap; `some_pair`: two shapes have one
--     gap-answers, answers-gap                         it is answered exactly if none of these rows applies
use Rattle.std.specs.Prelude.{◌≡◌, false, List, [], ◌∷◌, ◌++◌, ℕ, ◌≤◌, ◌<◌, ℤ, pos, length, Err}
use Rattle.std.proofs.Common.{sym, ap, arith, lt-ltb, le-ltb}
use Rattle.plane.specs.Point.{Point}
use Rattle.plane.specs.Reply.{Reply, Row, answered, refused, here, later, NoneApply}
use Rattle.plane.specs.Refusal.{shape_rows, Valid}
use Rattle.plane.specs.Floor.{Floored, corners}
use Rattle.plane.specs.Question.{Question, reply}
use Rattle.admission.specs.Admission.{Refuses}
use Rattle.admission.specs.theory.Judged.{refuses, refuses-join}
use Rattle.admission.specs.theory.Door.{shapes-refused, rest-refused, all-answered}
use Rattle.journal.specs.Format.{records}
use Rattle.journal.specs.Reading.{damaged, damage_row}
use Rattle.journal.specs.Current.{too_few_row}
use Rattle.journal.specs.Survey.{surveyed}
use Rattle.journal.specs.declared.survey.Damaged.{Damaged}
use Rattle.journal.proofs.theory.Survey.{surveyed-bad}
use Rattle.gaps.specs.Gap.{on_floor, size_rows_of, gap_numbers, ask_gap}

-- where the survey stops is what 15 carries
pub damage-refuses : (b : List ℕ) (d : Damaged) (rows : List Row) → surveyed b ≡ Err d
    → Refuses (damage_row b ∷ rows) (refused 15 (d.place ∷ []))
damage-refuses b d rows h = let s = surveyed-bad b d h in
    record { by = _; first = here s.0; is = ap (λ (k : ℕ). refused 15 (k ∷ [])) (sym s.1) }

-- two shapes make a pair
pub some_pair : (A : List Point) (rs : List (List ℕ)) → 2 ≤ length rs → [] ≡ gap_numbers A rs → ⊥
some_pair A [] h e = omega (arith, h)
some_pair A (r ∷ []) h e = omega (arith, h)
some_pair A (r ∷ s ∷ rs) h e = let z : ◌≡◌ {A = ℕ} 0 1 = cc e in omega arith

module _ (b : List ℕ) (cart : Floored) where
  abbrev q : Question
  q = ask_gap b cart

  abbrev rs : List (List ℕ)
  rs = on_floor cart.floor b

  pub gap-refused : {r : Reply} → Refuses (shape_rows 1 cart.list) r → r ≡ reply q
  gap-refused x = (shapes-refused q x).0

  module _ (v : Valid cart.list) where
    pub gap-damaged : (d : Damaged) → surveyed b ≡ Err d → refused 15 (d.place ∷ []) ≡ reply q
    gap-damaged d h = (rest-refused q v (damage-refuses b d _ h)).0

    module _ (sound : damaged (records b) ≡ false) where
      pub gap-few : length rs < 2 → refused 20 [] ≡ reply q
      gap-few h = (rest-refused q v (refuses {rows = q.rest} (later sound (here (lt-ltb (length rs) 2 h))))).0

      module _ (two : 2 ≤ length rs) where
        pub gap-large : {r : Reply} → Refuses (size_rows_of (corners cart) rs) r → r ≡ reply q
        gap-large x = (rest-refused q v (refuses-join (damage_row b ∷ too_few_row 2 rs ∷ []) (sound, (le-ltb (length rs) 2 two, tt)) x)).0

        pub gap-found : NoneApply (size_rows_of (corners cart) rs) → {vs : List ℤ} → vs ≡ gap_numbers (corners cart) rs
            → answered (vs ++ (pos cart.floor ∷ [])) ≡ reply q
        gap-found n e = all-answered q v (sound, (le-ltb (length rs) 2 two, n)) (ap (λ (ns : List ℤ). ns ++ (pos cart.floor ∷ [])) e)
