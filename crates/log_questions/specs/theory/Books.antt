-- Questions over the current shapes of a log: what is answered of what the inner functions find.
--     distance-numbers     a distance, as it is answered
--     nearest-refused, nearest-damaged, nearest-nobody, nearest-somebody     1 to 5, 15, 20, or the nearest shape
use Rattle.std.specs.Prelude.{◌≡◌, Option, None, Some, Err, refl, true, false, List, [], ◌∷◌, ◌++◌, ℕ, ltb, ℤ, pos, length}
use Rattle.std.proofs.Common.{sym, ap, arith, le-ltb}
use Rattle.plane.specs.Point.{Point, points}
use Rattle.plane.specs.Reply.{Reply, answered, refused, here, later}
use Rattle.plane.specs.Refusal.{shape_rows, Valid}
use Rattle.plane.specs.Question.{Question, reply}
use Rattle.clearance.specs.Answer.{spacing_numbers}
use Rattle.clearance.specs.declared.measured.Distance.{Distance}
use Rattle.answers.specs.Answer.{distance_values}
use Rattle.journal.specs.Format.{records}
use Rattle.journal.specs.Reading.{damaged}
use Rattle.journal.specs.Current.{around}
use Rattle.journal.specs.Survey.{surveyed}
use Rattle.journal.specs.declared.survey.Damaged.{Damaged}
use Rattle.journal.proofs.theory.Survey.{surveyed-bad}
use Rattle.neighbours.specs.Nearest.{nearest_numbers, ask_nearest}
use Rattle.admission.specs.Admission.{Refuses}
use Rattle.admission.specs.theory.Judged.{refuses}
use Rattle.admission.specs.theory.Door.{shapes-refused, rest-refused, all-answered}

-- how far apart two shapes are, as it is answered, is what clearance answers of them
pub distance-numbers : (d : Option Distance) → distance_values d ≡ spacing_numbers d
distance-numbers None = refl
distance-numbers (Some d) = refl

-- there are numbers exactly if there are records
none_left : (A : List Point) (rs : List (List ℕ)) → [] ≡ nearest_numbers A rs → ltb (length rs) 1 ≡ true
none_left A [] e = refl
none_left A (r ∷ rs) e = absurd (let z : ◌≡◌ {A = ℕ} 0 1 = cc e in let f : ⊥ = omega arith in f)

some_left : (A : List Point) (rs : List (List ℕ)) {n : ℤ} {vs : List ℤ} → n ∷ vs ≡ nearest_numbers A rs → ltb (length rs) 1 ≡ false
some_left A [] e = absurd (let z : ◌≡◌ {A = ℕ} 0 1 = cc e in let f : ⊥ = omega arith in f)
some_left A (r ∷ rs) e = le-ltb (length (r ∷ rs)) 1 (omega arith)

module _ (b : List ℕ) (l : List ℤ) (f but : ℕ) where
  abbrev q : Question
  q = ask_nearest b l f but

  pub nearest-refused : {r : Reply} → Refuses (shape_rows 1 l) r → r ≡ reply q
  nearest-refused x = (shapes-refused q x).0

  module _ (v : Valid l) where
    pub nearest-damaged : (d : Damaged) → surveyed b ≡ Err d → refused 15 (d.place ∷ []) ≡ reply q
    nearest-damaged d h =
        let s = surveyed-bad b d h in
        (rest-refused q v (record { by = _; first = here s.0; is = ap (λ (k : ℕ). refused 15 (k ∷ [])) (sym s.1) })).0

    module _ (sound : damaged (records b) ≡ false) where
      pub nearest-nobody : [] ≡ nearest_numbers (points l) (around f but (records b)) → refused 20 [] ≡ reply q
      nearest-nobody e =
          (rest-refused q v (refuses {rows = q.rest} (later sound (here (none_left (points l) (around f but (records b)) e))))).0

      pub nearest-somebody : (n : ℤ) (vs : List ℤ) → n ∷ vs ≡ nearest_numbers (points l) (around f but (records b))
          → answered (n ∷ vs ++ (pos f ∷ [])) ≡ reply q
      nearest-somebody n vs e = all-answered q v (sound, (some_left (points l) (around f but (records b)) e, tt))
          (ap (λ (ns : List ℤ). ns ++ (pos f ∷ [])) e)
