-- Document 01's number and values for each case of the enums ("Where an answer is an enum ..").
--     of_refusal r, of_answer r          a refusal, and a shape that was judged or written: passed on from `admission`
--     of_furthest r, of_length r, ..     the reply of each other question: its values, the floor last, or a refusal
--     face_values, length_values, ..     the values alone
use Rattle.std.specs.Prelude.{Bool, cond, List, [], ◌∷◌, ◌++◌, ℕ, ℤ, pos, Option, Some, None, Result, Ok, Err}
use Rattle.plane.specs.Reply.{Reply, answered, refused}
use Rattle.polygon.specs.declared.point.Point.{Point}
use Rattle.direction.specs.declared.Face.{Face}
use Rattle.measure.specs.declared.Length.{Length}
use Rattle.measure.specs.declared.Width.{Width}
use Rattle.separation.specs.declared.answer.Relation.{Relation}
use Rattle.separation.specs.Answer.{number_of}
use Rattle.clearance.specs.declared.measured.Distance.{Distance}
use Rattle.clearance.specs.Answer.{values_of}
use Rattle.tangents.specs.declared.Line.{Line}
use Rattle.tablet.specs.Reading.{Sent}
use Rattle.tablet.specs.declared.reading.Fault.{Fault}
use Rattle.admission.specs.declared.answer.Refusal.{Refusal}
use Rattle.admission.specs.declared.answer.OnFloor.{OnFloor}
pub use Rattle.admission.specs.Answer.{of_refusal, on_floor, of_answer}
use Rattle.answers.specs.declared.LeastBox.{LeastBox}
use Rattle.answers.specs.declared.Beyond.{Beyond}
use Rattle.answers.specs.declared.Nearest.{Nearest}
use Rattle.answers.specs.declared.Gap.{Gap}
use Rattle.answers.specs.declared.Meeting.{Meeting}
use Rattle.answers.specs.declared.Drive.{Drive}
use Rattle.answers.specs.declared.Lane.{Lane}
use Rattle.answers.specs.declared.Tangents.{Tangents}
use Rattle.answers.specs.declared.Corner.{Corner}
use Rattle.answers.specs.declared.Axis.{Axis}
use Rattle.answers.specs.declared.Unread.{Unread}
use Rattle.answers.specs.declared.Addition.{Addition}
use Rattle.answers.specs.declared.Entry.{Entry}

abbrev pub Told : Type 0 → Type 0
Told T = Result (OnFloor T) Refusal

-- ---- of one shape

abbrev pub face_values : Face → List ℤ
face_values f = pos f.first ∷ pos f.last ∷ f.value ∷ []

abbrev pub of_furthest : Told Face → Reply
of_furthest r = on_floor face_values r

abbrev pub length_values : Length → List ℤ
length_values l = pos l.squared ∷ pos l.from ∷ pos l.to ∷ []

abbrev pub of_length : Told Length → Reply
of_length r = on_floor length_values r

-- twice the area
abbrev pub of_area : Told ℕ → Reply
of_area r = on_floor (λ twice. pos twice ∷ []) r

abbrev pub width_values : Width → List ℤ
width_values w = pos w.edge ∷ pos w.corner ∷ pos w.turn ∷ pos w.squared ∷ pos w.rounded ∷ []

abbrev pub of_width : Told Width → Reply
of_width r = on_floor width_values r

abbrev pub box_values : LeastBox → List ℤ
box_values b = pos b.edge ∷ pos b.height ∷ pos b.along ∷ pos b.squared ∷ []

abbrev pub of_box : Told LeastBox → Reply
of_box r = on_floor box_values r

-- ---- of two shapes

-- 0 apart, 1 touching, 2 overlapping
abbrev pub of_relation : Told Relation → Reply
of_relation r = on_floor (λ x. number_of x ∷ []) r

-- 1 yes, 0 no
abbrev pub yes_values : Bool → List ℤ
yes_values b = cond b (pos 1) (pos 0) ∷ []

abbrev pub of_inside : Told Bool → Reply
of_inside r = on_floor yes_values r

-- 1 accepted, 0 not
abbrev pub of_offer : Told Bool → Reply
of_offer r = on_floor yes_values r

-- 0, or 1 and the values of what is found
abbrev pub found_values : {T : Type 0} → (T → List ℤ) → Option T → List ℤ
found_values values None = pos 0 ∷ []
found_values values (Some x) = pos 1 ∷ values x

-- 1 and the direction, or 0 if there is none
abbrev pub of_separator : Told (Option Point) → Reply
of_separator r = on_floor (found_values (λ d. d.x ∷ d.y ∷ [])) r

-- 0 not apart; else the numbers of the distance
abbrev pub distance_values : Option Distance → List ℤ
distance_values None = pos 0 ∷ []
distance_values (Some d) = values_of d

abbrev pub of_clearance : Told (Option Distance) → Reply
of_clearance r = on_floor distance_values r

abbrev pub of_greatest : Told Length → Reply
of_greatest r = on_floor length_values r

-- 0 inside, 1 two corners, 2 a corner of the new shape and an edge of the old one
abbrev pub beyond_values : Option Beyond → List ℤ
beyond_values None = pos 0 ∷ []
beyond_values (Some (Beyond.Corners c j d u)) = pos 1 ∷ pos c ∷ pos j ∷ pos d ∷ pos u ∷ []
beyond_values (Some (Beyond.Edge c e t q u)) = pos 2 ∷ pos c ∷ pos e ∷ pos t ∷ pos q ∷ pos u ∷ []

abbrev pub of_excess : Told (Option Beyond) → Reply
of_excess r = on_floor beyond_values r

-- 0 blocked; or 1, the direction, the two lines and the width
abbrev pub lane_values : Lane → List ℤ
lane_values l = l.u ∷ l.v ∷ l.low ∷ l.high ∷ pos l.width ∷ []

abbrev pub of_passage : Told (Option Lane) → Reply
of_passage r = on_floor (found_values lane_values) r

-- of each line the position in the first shape, then in the second
abbrev pub line_values : Line → List ℤ
line_values l = pos l.from ∷ pos l.to ∷ []

abbrev pub tangents_values : Tangents → List ℤ
tangents_values t = line_values t.left ++ (line_values t.right ++ (line_values t.crossing ++ line_values t.reverse))

abbrev pub of_tangents : Told Tangents → Reply
of_tangents r = on_floor tangents_values r

-- ---- of a drive

-- 0 never; or 1, the fraction and the safe millimetres
abbrev pub meeting_values : Meeting → List ℤ
meeting_values m = pos m.numerator ∷ pos m.denominator ∷ pos m.safe ∷ []

abbrev pub of_contact : Told (Option Meeting) → Reply
of_contact r = on_floor (found_values meeting_values) r

-- 0 never; or 1, the name, and contact's fraction and safe millimetres
abbrev pub of_drive : Told (Option Drive) → Reply
of_drive r = on_floor (found_values (λ d. pos d.name ∷ meeting_values d.meeting)) r

-- ---- of a log

-- the name, then what `of_clearance` answers
abbrev pub of_nearest : Told Nearest → Reply
of_nearest r = on_floor (λ n. pos n.name ∷ distance_values n.distance) r

-- both names, then clearance's numbers of the two grown shapes
abbrev pub of_gap : Told Gap → Reply
of_gap r = on_floor (λ g. pos g.name ∷ pos g.other ∷ distance_values g.distance) r

-- 1 finished, 0 cut; of no floor
abbrev pub of_addition : Result Addition Refusal → Reply
of_addition (Ok Addition.Finished) = answered (pos 1 ∷ [])
of_addition (Ok Addition.Cut) = answered (pos 0 ∷ [])
of_addition (Err r) = of_refusal r

-- how many corners, and the name
abbrev pub of_entry : Told Entry → Reply
of_entry r = on_floor (λ e. pos e.count ∷ pos e.name ∷ []) r

-- ---- of the tablet

abbrev pub axis_number : Axis → ℕ
axis_number Axis.X = 1
axis_number Axis.Y = 2

abbrev pub fault_number : Fault → ℕ
fault_number Fault.NotFinite = 17
fault_number Fault.NotWhole = 18
fault_number Fault.Far = 3

-- "a refusal says which of them it was and gives nothing else": 1 for x, 2 for y
abbrev pub of_unread : Unread → Reply
of_unread u = refused (fault_number u.fault) (axis_number u.axis ∷ [])

-- the whole numbers, and the doubles that go back
abbrev pub of_tablet : Result Corner Unread → Sent
of_tablet (Ok c) = record { reply = answered (c.x ∷ c.y ∷ []); doubles = c.sent.x ∷ c.sent.y ∷ [] }
of_tablet (Err u) = record { reply = of_unread u; doubles = [] }
