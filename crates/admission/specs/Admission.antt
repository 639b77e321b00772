-- What judging says (document 01, "Several at once: the first shape by 1 to 5 in number order, then the second shape likewise"; document
-- 02, W11). Our own, not of these documents.
--     Refuses rows r       r is the refusal of the first of the rows that applies
--     Judged T rows x      x says that all is well, and then T holds; or x is the refusal of the first of the rows that applies
use Rattle.std.specs.Prelude.{◌≡◌, List, Result, Ok, Err}
use Rattle.plane.specs.Reply.{Reply, refused, Row, First}
use Rattle.admission.specs.declared.answer.Refusal.{Refusal}
use Rattle.admission.specs.Answer.{of_refusal}

pub record Refuses (rows : List Row) (r : Reply) : Type 0 where
  pub by : Row
  pub first : First by rows
  pub is : r ≡ refused by.number by.carries

pub record Judged (T : Type 0) (rows : List Row) (x : Result Unit Refusal) : Type 0 where
  pub valid : x ≡ Ok tt → T
  pub no : (r : Refusal) → x ≡ Err r → Refuses rows (of_refusal r)
