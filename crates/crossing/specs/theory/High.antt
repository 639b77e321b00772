-- On a floor above its limit the rows of the shapes are judged, and then 13 is due, whatever the question.
--     barred-refused                                 what judging says
--     barred-shape, barred-points, barred-shapes     13 after lists that pass
--     judged-next                                    one judging after another that passed
--     judged-told, judged-barred                     what is refused, or 13, is the reply
--     barred-kept                                    the output of a question that is answered so stays as it was
--     high-reply, above                              reply, then numbers and output of `low_floor`, of one shape or many points
--     pair-reply, above-pair                         the same of two shapes, one of which is on a floor above its limit
use Rattle.std.specs.Prelude.{◌≡◌, refl, Bool, true, false, cond, ◌||◌, List, [], ◌∷◌, ◌++◌, ℕ, eqb, ltb, ℤ, Result, Ok, Err, OnOk, IfErr}
use Rattle.std.proofs.Common.{sym, ◌∙◌, ap, eqb-true}
use Rattle.plane.specs.Limits.{max_floor}
use Rattle.plane.specs.Reply.{Reply, answered, refused, Row, row, first_row, NoneApply}
use Rattle.plane.specs.Refusal.{shape_rows, Valid}
use Rattle.plane.specs.Sweep.{point_rows, ValidPoints}
use Rattle.plane.specs.Floor.{Floored, Shapes, two_shapes, floor_row, rows_of, floor_of}
use Rattle.plane.specs.Question.{Question, values, reply, output}
use Rattle.plane.proofs.theory.refusals.Rows.{first_row-append, first_row-given, first_row-none, none-join, Outcome, given, passed, outcome}
use Rattle.plane.proofs.theory.refusals.Accept.{valid→accepted}
use Rattle.plane.proofs.theory.refusals.Points.{points→accepted}
use Rattle.plane.proofs.theory.refusals.Asked.{asked-kept}
use Rattle.admission.specs.declared.answer.Refusal.{Refusal}
use Rattle.admission.specs.Answer.{of_refusal}
use Rattle.admission.specs.Admission.{Refuses, Judged}
use Rattle.admission.specs.theory.Judged.{refusal-of, refuses-join}
use Rattle.wire.specs.Told.{crossed}
use Rattle.crossing.specs.LowFloor.{low_floor, barred}

pub barred-refused : {rows : List Row} {r : Reply} → Refuses rows r → r ≡ barred rows
barred-refused f = f.is ∙ sym (first_row-given _ f.first)

barred-passed : (rows : List Row) → NoneApply rows → refused 13 [] ≡ barred rows
barred-passed rows n = sym (first_row-none rows _ n)

pub judged-told : {T : Type 0} {rows : List Row} {ns : List ℕ} (x : Result Unit Refusal) → Judged T rows x → (T
    → refused 13 [] ≡ barred rows)
    → OnOk x (ns ≡ crossed (refused 13 [])) → IfErr x (λ r. ns ≡ crossed (of_refusal r)) → ns ≡ crossed (barred rows)
judged-told (Ok _) j thirteen ok err = ok ∙ ap crossed (thirteen (j.valid refl))
judged-told (Err r) j thirteen ok err = err ∙ ap crossed (barred-refused (refusal-of j))

pub judged-barred : {T : Type 0} {rows : List Row} {ns : List ℕ} (x : Result Unit Refusal) → Judged T rows x → (T → NoneApply rows)
    → OnOk x (ns ≡ crossed (refused 13 [])) → IfErr x (λ r. ns ≡ crossed (of_refusal r)) → ns ≡ crossed (barred rows)
judged-barred {rows = rows} x j n ok err = judged-told x j (λ t. barred-passed rows (n t)) ok err

-- one judging after another that passed
pub judged-next : {T U : Type 0} (vs : List Row) {ws : List Row} {x : Result Unit Refusal} → T → NoneApply vs → Judged U ws x
    → Judged (T × U) (vs ++ ws) x
judged-next vs t n j = record { valid = λ e. (t, j.valid e); no = λ r e. refuses-join vs n (j.no r e) }

pub barred-shape : (l : List ℤ) → Valid l → refused 13 [] ≡ barred (shape_rows 1 l)
barred-shape l v = barred-passed (shape_rows 1 l) (valid→accepted l 1 v)

pub barred-points : (l : List ℤ) → ValidPoints l → refused 13 [] ≡ barred (point_rows l)
barred-points l v = barred-passed (point_rows l) (points→accepted l v)

pub barred-shapes : (l m : List ℤ) → Valid l → Valid m → refused 13 [] ≡ barred (shape_rows 1 l ++ shape_rows 2 m)
barred-shapes l m v w =
    barred-passed (shape_rows 1 l ++ shape_rows 2 m)
    (none-join (shape_rows 1 l) (shape_rows 2 m) (valid→accepted l 1 v) (valid→accepted m 2 w))

pub barred-kept : (q : Question) (rows : List Row) → barred rows ≡ reply q → q.lent ≡ output q
barred-kept q rows e = go (outcome rows)
  where
    go : Outcome rows → q.lent ≡ output q
    go (given w f) = sym (asked-kept q w.number w.carries (sym e ∙ first_row-given _ f))
    go (passed n) = sym (asked-kept q 13 [] (sym e ∙ first_row-none rows _ n))

-- ---- one shape, or many points

pub high-reply : (q : Question) → ltb max_floor (floor_of q.shapes) ≡ true → barred (rows_of q.shapes) ≡ reply (low_floor q)
unfolding reply low_floor
high-reply q high =
    let later = first_row q.rest (answered (values q)) in
    ap (λ (b : Bool). first_row (rows_of q.shapes) (cond b (refused 13 []) later)) (sym high)
    ∙ sym (first_row-append (rows_of q.shapes) (low_floor q).rest _)

pub above : (q : Question) → ltb max_floor (floor_of q.shapes) ≡ true → {ns : List ℕ} → ns ≡ crossed (barred (rows_of q.shapes))
    → (ns ≡ crossed (reply (low_floor q))) × (q.lent ≡ output (low_floor q))
unfolding low_floor
above q high n =
    let told = high-reply q high in
    (n ∙ ap crossed told, barred-kept (low_floor q) (rows_of q.shapes) told)

-- ---- two shapes

-- different floors are 13 by the pair's own row; equal ones are both above the limit
thirteen : (f g : ℕ) (rest : List Row) (r : Reply) → (ltb max_floor f || ltb max_floor g) ≡ true
    → refused 13 [] ≡ first_row (floor_row f g ∷ row 13 (ltb max_floor f) [] ∷ rest) r
thirteen f g rest r high = go (eqb f g) refl
  where
    either : (b : Bool) → (b || b) ≡ true → b ≡ true
    either true h = refl
    either false h = h

    go : (same : Bool) → eqb f g ≡ same → refused 13 [] ≡ first_row (floor_row f g ∷ row 13 (ltb max_floor f) [] ∷ rest) r
    go true e =
        let both = either (ltb max_floor f) (ap (λ (n : ℕ). ltb max_floor f || ltb max_floor n) (eqb-true f g e) ∙ high) in
        rw (e, both)
    go false e = rw e

pub pair-reply : (q : Question) {a b : Floored} → q.shapes ≡ two_shapes a b → (ltb max_floor a.floor || ltb max_floor b.floor) ≡ true
    → barred (shape_rows 1 a.list ++ shape_rows 2 b.list) ≡ reply (low_floor q)
unfolding reply low_floor
pair-reply q {a} {b} e high =
    let answer = answered (values q) in
    let shapes = shape_rows 1 a.list ++ shape_rows 2 b.list in
    ap (λ (x : Reply). first_row shapes x) (thirteen a.floor b.floor q.rest answer high)
    ∙ ap (λ (s : Shapes). first_row (rows_of s ++ (row 13 (ltb max_floor (floor_of s)) [] ∷ q.rest)) answer) (sym e)

pub above-pair : (q : Question) {a b : Floored} → q.shapes ≡ two_shapes a b → (ltb max_floor a.floor || ltb max_floor b.floor) ≡ true
    → {ns : List ℕ} → ns ≡ crossed (barred (shape_rows 1 a.list ++ shape_rows 2 b.list))
    → (ns ≡ crossed (reply (low_floor q))) × (q.lent ≡ output (low_floor q))
unfolding low_floor
above-pair q {a} {b} e high n =
    let told = pair-reply q e high in
    (n ∙ ap crossed told, barred-kept (low_floor q) (shape_rows 1 a.list ++ shape_rows 2 b.list) told)
