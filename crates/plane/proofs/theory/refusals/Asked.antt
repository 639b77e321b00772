-- What every question answers and writes, by its table.
--     admitted→none, none→admitted      no row of the shapes applies exactly if they are good
--     asked-given, asked-refused        a refusal is given exactly when its row applies and none before it does
--     asked-none, asked-answered        an answer exactly when none applies; `asked-values`: with these values
--     asked-kept, asked-wrote           a refusal leaves the output as it was; an answer writes the shape at its front
--     asked-shapes, asked-rest          an answer is given only of shapes that are good, and if none of the question's own rows applies
--     asked-floors                      two good shapes on different floors are refused 13
--     shapes-given, rest-given, rest-none     the first row that applies, by the part of the table where it is
--     given-kept, none-wrote            the output, by the first row that applies, or if none does
use Rattle.std.specs.Prelude.{◌≡◌, not, List, [], ◌∷◌, ◌++◌, ℕ, ℤ}
use Rattle.std.proofs.Common.{sym, ap, subst, eqb-true, eq-eqb, ne_eqb}
use Rattle.std.proofs.lemmas.Bool.{not-false}
use Rattle.plane.specs.Point.{numbers}
use Rattle.plane.specs.Reply.{answered, refused, Row, NoneApply, First, here}
use Rattle.plane.specs.Refusal.{shape_rows, Valid}
use Rattle.plane.specs.Output.{overwritten}
use Rattle.plane.specs.Floor.{Floored, Shapes, no_shape, one_shape, two_shapes, many_points, floor_row, pair_rows, rows_of, Same, Admitted}
use Rattle.plane.specs.Question.{Question, table, values, reply, output}
use Rattle.plane.proofs.theory.refusals.Rows.{none-append, none-join, first-append, first-join, first_row-given, first_row-none}
use Rattle.plane.proofs.theory.refusals.Rows.{first_row-answered, first_row-refused, given-output, none-output}
use Rattle.plane.proofs.theory.refusals.Accept.{valid→accepted, accepted→valid}
use Rattle.plane.proofs.theory.refusals.Points.{accepted→points, points→accepted}

-- ---- the shapes

same→none : (a b : Floored) → Same a b → NoneApply (pair_rows a b)
same→none a b s =
    none-join (shape_rows 1 a.list) (shape_rows 2 b.list ++ (floor_row a.floor b.floor ∷ []))
    (valid→accepted a.list 1 s.first-valid)
    (none-join (shape_rows 2 b.list) (floor_row a.floor b.floor ∷ []) (valid→accepted b.list 2 s.second-valid)
    (ap not (eq-eqb a.floor b.floor s.one-floor), tt))

none→same : (a b : Floored) → NoneApply (pair_rows a b) → Same a b
none→same a b n =
    let first = none-append (shape_rows 1 a.list) (shape_rows 2 b.list ++ (floor_row a.floor b.floor ∷ [])) n in
    let second = none-append (shape_rows 2 b.list) (floor_row a.floor b.floor ∷ []) first.1 in
    record {
      first-valid = accepted→valid a.list 1 first.0;
      second-valid = accepted→valid b.list 2 second.0;
      one-floor = eqb-true a.floor b.floor (not-false _ second.1.0);
    }

pub admitted→none : (s : Shapes) → Admitted s → NoneApply (rows_of s)
admitted→none (no_shape f) g = tt
admitted→none (one_shape a) g = valid→accepted a.list 1 g
admitted→none (two_shapes a b) g = same→none a b g
admitted→none (many_points a) g = points→accepted a.list g

pub none→admitted : (s : Shapes) → NoneApply (rows_of s) → Admitted s
none→admitted (no_shape f) n = tt
none→admitted (one_shape a) n = accepted→valid a.list 1 n
none→admitted (two_shapes a b) n = none→same a b n
none→admitted (many_points a) n = accepted→points a.list n

-- 13, after the rows of both shapes
pub floors-first : (a b : Floored) → Valid a.list → Valid b.list → (a.floor ≡ b.floor → ⊥)
    → First (floor_row a.floor b.floor) (pair_rows a b)
floors-first a b v w f =
    first-join (shape_rows 1 a.list) (valid→accepted a.list 1 v)
    (first-join (shape_rows 2 b.list) (valid→accepted b.list 2 w) (here (ap not (ne_eqb a.floor b.floor f))))

-- ---- every question

module _ (q : Question) where
  pub asked-given : {w : Row} → First w (table q) → reply q ≡ refused w.number w.carries
  unfolding reply
  asked-given f = first_row-given _ f

  pub asked-none : NoneApply (table q) → reply q ≡ answered (values q)
  unfolding reply
  asked-none n = first_row-none (table q) _ n

  pub asked-refused : (n : ℕ) (carries : List ℕ) → reply q ≡ refused n carries
      → (w : Row) × First w (table q) × (w.number ≡ n) × (w.carries ≡ carries)
  unfolding reply
  asked-refused n carries h = first_row-refused (table q) _ n carries h

  pub asked-answered : (v : List ℤ) → reply q ≡ answered v → NoneApply (table q)
  unfolding reply
  asked-answered v h = first_row-answered (table q) _ v h

  pub asked-values : (v : List ℤ) → reply q ≡ answered v → v ≡ values q
  asked-values v h = cc (h, asked-none (asked-answered v h))

  pub given-kept : {w : Row} → First w (table q) → output q ≡ q.lent
  unfolding output
  given-kept f = given-output q.lent _ f

  pub none-wrote : NoneApply (table q) → output q ≡ overwritten (numbers q.shape) q.lent
  unfolding output
  none-wrote n = none-output (table q) q.lent _ n

  pub asked-kept : (n : ℕ) (carries : List ℕ) → reply q ≡ refused n carries → output q ≡ q.lent
  asked-kept n carries h = given-kept (asked-refused n carries h).1

  pub asked-wrote : (v : List ℤ) → reply q ≡ answered v → output q ≡ overwritten (numbers q.shape) q.lent
  asked-wrote v h = none-wrote (asked-answered v h)

  pub asked-shapes : (v : List ℤ) → reply q ≡ answered v → Admitted q.shapes
  asked-shapes v h = none→admitted q.shapes (none-append (rows_of q.shapes) q.rest (asked-answered v h)).0

  pub asked-rest : (v : List ℤ) → reply q ≡ answered v → NoneApply q.rest
  asked-rest v h = (none-append (rows_of q.shapes) q.rest (asked-answered v h)).1

  -- ---- by the part of the table

  pub shapes-given : {w : Row} → First w (rows_of q.shapes) → First w (table q)
  shapes-given f = first-append q.rest f

  module _ (good : Admitted q.shapes) where
    pub rest-given : {w : Row} → First w q.rest → First w (table q)
    rest-given f = first-join (rows_of q.shapes) (admitted→none q.shapes good) f

    pub rest-none : NoneApply q.rest → NoneApply (table q)
    rest-none n = none-join (rows_of q.shapes) q.rest (admitted→none q.shapes good) n

  pub asked-floors : (a b : Floored) → q.shapes ≡ two_shapes a b → Valid a.list → Valid b.list → (a.floor ≡ b.floor → ⊥)
      → reply q ≡ refused 13 []
  asked-floors a b e v w f =
      asked-given (shapes-given (subst (λ s. First (floor_row a.floor b.floor) (rows_of s)) (sym e) (floors-first a b v w f)))
