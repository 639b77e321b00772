-- What a question refuses and answers, after its lists were judged. The question comes first; `_` finds it in the goal.
--     shapes-refused, rest-refused     the refusal of a row of the shapes, or of the question's own, and the output as it was
--     then-floors                      two shapes are judged by their floors
--     all-answered                     no row applies: the values are answered; `all-written`: and the shape is written
use Rattle.std.specs.Prelude.{◌≡◌, List, [], ◌∷◌, ℤ, Result}
use Rattle.std.proofs.Common.{sym, ◌∙◌, ap}
use Rattle.plane.specs.Point.{numbers}
use Rattle.plane.specs.Reply.{Reply, answered, NoneApply}
use Rattle.plane.specs.Output.{overwritten}
use Rattle.plane.specs.Refusal.{shape_rows, Valid}
use Rattle.plane.specs.Floor.{Floored, floor_row, pair_rows, Same, rows_of, Admitted}
use Rattle.plane.specs.Question.{Question, values, reply, output}
use Rattle.plane.proofs.theory.refusals.Accept.{valid→accepted}
use Rattle.plane.proofs.theory.refusals.Asked.{asked-given, asked-none, given-kept, none-wrote, shapes-given, rest-given, rest-none}
use Rattle.admission.specs.declared.answer.Refusal.{Refusal}
use Rattle.admission.specs.Admission.{Refuses, Judged}
use Rattle.admission.specs.theory.Judged.{refuses-join}

pub then-floors : (a b : Floored) → Valid a.list → Valid b.list → {x : Result Unit Refusal}
    → Judged (a.floor ≡ b.floor) (floor_row a.floor b.floor ∷ []) x → Judged (Same a b) (pair_rows a b) x
then-floors a b v w j = record {
  valid = λ e. record { first-valid = v; second-valid = w; one-floor = j.valid e };
  no = λ r e. refuses-join (shape_rows 1 a.list) (valid→accepted a.list 1 v)
      (refuses-join (shape_rows 2 b.list) (valid→accepted b.list 2 w) (j.no r e));
}

module _ (q : Question) where
  pub shapes-refused : {r : Reply} → Refuses (rows_of q.shapes) r → (r ≡ reply q) × (q.lent ≡ output q)
  shapes-refused f =
      let first = shapes-given q f.first in (f.is ∙ sym (asked-given q first), sym (given-kept q first))

  module _ (good : Admitted q.shapes) where
    pub rest-refused : {r : Reply} → Refuses q.rest r → (r ≡ reply q) × (q.lent ≡ output q)
    rest-refused f =
        let first = rest-given q good f.first in (f.is ∙ sym (asked-given q first), sym (given-kept q first))

    pub all-answered : NoneApply q.rest → {v : List ℤ} → v ≡ values q → answered v ≡ reply q
    all-answered n e = ap answered e ∙ sym (asked-none q (rest-none q good n))

    pub all-written : NoneApply q.rest → {v out : List ℤ} → v ≡ values q → out ≡ overwritten (numbers q.shape) q.lent
        → (answered v ≡ reply q) × (out ≡ output q)
    all-written n e w = (all-answered n e, w ∙ sym (none-wrote q (rest-none q good n)))
