-- Three shapes of one question.
--     three→none, none→three     no row of theirs applies exactly if they are three valid shapes on one floor
--     floors-refused             of valid shapes what is refused of their floors; `then-last`: they are judged by the last floor
use Rattle.std.specs.Prelude.{◌≡◌, not, List, [], ◌∷◌, ◌++◌, Result}
use Rattle.std.proofs.Common.{ap, eqb-true, eq-eqb}
use Rattle.std.proofs.lemmas.Bool.{not-false}
use Rattle.plane.specs.Reply.{Reply, Row, NoneApply}
use Rattle.plane.specs.Refusal.{shape_rows, Valid}
use Rattle.plane.specs.Floor.{Floored, floor_row}
use Rattle.plane.proofs.theory.refusals.Rows.{none-append, none-join}
use Rattle.plane.proofs.theory.refusals.Accept.{valid→accepted, accepted→valid}
use Rattle.admission.specs.declared.answer.Refusal.{Refusal}
use Rattle.admission.specs.Admission.{Refuses, Judged}
use Rattle.admission.specs.Three.{floor_rows, three_rows, SameThree}
use Rattle.admission.specs.theory.Judged.{refuses-join}

module _ (a b c : Floored) where
  -- what comes after the rows of the first shape, of the second
  abbrev after-second : List Row
  after-second = shape_rows 3 c.list ++ floor_rows a b c

  abbrev after_first : List Row
  after_first = shape_rows 2 b.list ++ after-second

  pub three→none : SameThree a b c → NoneApply (three_rows a b c)
  three→none s =
      none-join (shape_rows 1 a.list) after_first (valid→accepted a.list 1 s.first-valid)
      (none-join (shape_rows 2 b.list) after-second (valid→accepted b.list 2 s.second-valid)
      (none-join (shape_rows 3 c.list) (floor_rows a b c) (valid→accepted c.list 3 s.third-valid) (
        ap not (eq-eqb a.floor b.floor s.second-floor),
        (ap not (eq-eqb a.floor c.floor s.third-floor), tt),
      )))

  pub none→three : NoneApply (three_rows a b c) → SameThree a b c
  none→three n =
      let first = none-append (shape_rows 1 a.list) after_first n in
      let second = none-append (shape_rows 2 b.list) after-second first.1 in
      let third = none-append (shape_rows 3 c.list) (floor_rows a b c) second.1 in
      record {
        first-valid = accepted→valid a.list 1 first.0;
        second-valid = accepted→valid b.list 2 second.0;
        third-valid = accepted→valid c.list 3 third.0;
        second-floor = eqb-true a.floor b.floor (not-false _ third.1.0);
        third-floor = eqb-true a.floor c.floor (not-false _ third.1.1.0);
      }

  module _ (u : Valid a.list) (v : Valid b.list) (w : Valid c.list) where
    pub floors-refused : {r : Reply} → Refuses (floor_rows a b c) r → Refuses (three_rows a b c) r
    floors-refused f =
        refuses-join (shape_rows 1 a.list) (valid→accepted a.list 1 u)
        (refuses-join (shape_rows 2 b.list) (valid→accepted b.list 2 v)
        (refuses-join (shape_rows 3 c.list) (valid→accepted c.list 3 w) f))

    pub then-last : a.floor ≡ b.floor → {x : Result Unit Refusal}
        → Judged (a.floor ≡ c.floor) (floor_row a.floor c.floor ∷ []) x → Judged (SameThree a b c) (three_rows a b c) x
    then-last same j = record {
      valid = λ e. record { first-valid = u; second-valid = v; third-valid = w; second-floor = same; third-floor = j.valid e };
      no = λ r e. floors-refused (refuses-join (floor_row a.floor b.floor ∷ [])
          (ap not (eq-eqb a.floor b.floor same), tt) (j.no r e));
    }
