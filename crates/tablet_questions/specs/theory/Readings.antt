-- A corner of two readings: what is answered where a reading is refused, and where both are accepted.
--     coordinated              a reading is judged by its rows
--     refused-x, refused-y     nothing goes back
--     sent-corner              the whole numbers and the doubles that hold them
--     known, unread-back       the refusal with a number and a part, and that it is the one whose reply they are
use Rattle.std.specs.Prelude.{◌≡◌, refl, cond, eqb, get_or, ℕ, ℤ, Float, Result, Ok, Err}
use Rattle.std.proofs.Math.Path.{sym}
use Rattle.std.proofs.Common.{ap, ◌∙◌, subst}
use Rattle.std.specs.Result.{MatchResult, IsErrAnd}
use mathlib.Core.List.{List, [], ◌∷◌}
use Rattle.plane.specs.Reply.{Reply, answered, refused}
use Rattle.plane.proofs.theory.refusals.Rows.{first_row-given}
use Rattle.tablet.specs.Double.{holding}
use Rattle.tablet.specs.Reading.{read_as, reading_rows, tablet_reply, sent_back, Sent, tablet_sent}
use Rattle.tablet.proofs.theory.Rows.{whole-passed, not-finite-row, not-whole-row, far-row}
use Rattle.tablet.proofs.theory.Corner.{read-corner}
use Rattle.tablet.specs.declared.reading.Reading.{Reading}
use Rattle.admission.specs.Admission.{Refuses}
use Rattle.tablet.specs.declared.reading.Fault.{Fault}
use Rattle.answers.specs.declared.Axis.{Axis}
use Rattle.answers.specs.declared.Unread.{Unread}
use Rattle.answers.specs.Answer.{axis_number, of_unread}
use Rattle.admission.specs.theory.Judged.{refuses, refuses-append, refuses-join, handed-on}
use Rattle.tablet_questions.specs.Coordinate.{Coordinated}

-- ---- one reading

faulty : (a : Axis) (x : Reading) (f : Fault) → read_as x ≡ Err f
    → Refuses (reading_rows (axis_number a) x) (of_unread (record { axis = a; fault = f }))
faulty a x Fault.NotFinite e = refuses (not-finite-row (axis_number a) x e)
faulty a x Fault.NotWhole e = refuses (not-whole-row (axis_number a) x e)
faulty a x Fault.Far e = refuses (far-row (axis_number a) x e)

pub coordinated : (a : Axis) (x : Reading) (r : Result ℤ Fault) (s : Result ℤ Unread) → r ≡ read_as x
    → MatchResult r (λ n. s ≡ Ok n) (λ f. IsErrAnd s (λ (u : Unread). u ≡ record { axis = a; fault = f })) → Coordinated a x s
coordinated a x (Ok n) s e h = subst (Coordinated a x) (sym h) (sym e)
coordinated a x (Err f) s e h = subst (Coordinated a x) (sym (handed-on s _ h)) (faulty a x f (sym e))

-- ---- a corner

abbrev sent : Reply → List Float → Sent
sent r ds = record { reply = r; doubles = ds }

-- the doubles follow from the reply
follows : (x y : Reading) (r : Reply) (ds : List Float) → r ≡ tablet_reply x y → ds ≡ sent_back r → sent r ds ≡ tablet_sent x y
follows x y r ds h k = ap (sent r) k ∙ ap (λ z. sent z (sent_back z)) h

module _ (x y : Reading) (r : Reply) where
  pub refused-x : Refuses (reading_rows 1 x) r → sent r [] ≡ tablet_sent x y
  unfolding tablet_reply
  refused-x f =
      let more = refuses-append (reading_rows 2 y) f in
      follows x y r [] (more.is ∙ sym (first_row-given _ more.first)) (sym (ap sent_back f.is))

  pub refused-y : (m : ℤ) → read_as x ≡ Ok m → Refuses (reading_rows 2 y) r → sent r [] ≡ tablet_sent x y
  unfolding tablet_reply
  refused-y m h f =
      let more = refuses-join (reading_rows 1 x) (whole-passed 1 x m h) f in
      follows x y r [] (more.is ∙ sym (first_row-given _ more.first)) (sym (ap sent_back f.is))

pub sent-corner : (x y : Reading) (m n : ℤ) → read_as x ≡ Ok m → read_as y ≡ Ok n
    → sent (answered (m ∷ n ∷ [])) (holding m ∷ holding n ∷ []) ≡ tablet_sent x y
sent-corner x y m n h k = follows x y (answered (m ∷ n ∷ [])) (holding m ∷ holding n ∷ []) (sym (read-corner x y m n h k)) refl

-- ---- a refusal is known by its reply

abbrev axis : List ℕ → Axis
axis c = cond (eqb (get_or c 0 0) 1) Axis.X Axis.Y

abbrev pub known : Reply → Unread
known (answered v) = record { axis = Axis.X; fault = Fault.Far }
known (refused n c) =
    record { axis = axis c; fault = cond (eqb n 17) Fault.NotFinite (cond (eqb n 18) Fault.NotWhole Fault.Far) }

fault-back : (a : Axis) (f : Fault) → record { axis = a; fault = f } ≡ known (of_unread (record { axis = a; fault = f }))
fault-back Axis.X Fault.NotFinite = refl
fault-back Axis.X Fault.NotWhole = refl
fault-back Axis.X Fault.Far = refl
fault-back Axis.Y Fault.NotFinite = refl
fault-back Axis.Y Fault.NotWhole = refl
fault-back Axis.Y Fault.Far = refl

pub unread-back : (r : Unread) → r ≡ known (of_unread r)
unread-back r = fault-back r.axis r.fault
