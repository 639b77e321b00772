-- Every refusal and every answer has room in a reply: nothing is cut when it crosses.
--     floor-room      an answer of at most eight values has room for its floor
--     distance-few    a distance leaves room for two names and a floor
use Rattle.std.specs.Prelude.{Bool, List, [], ◌∷◌, ℕ, ◌≤◌, ℤ, pos, length, Option, Some, None, Result, Ok, Err}
use Rattle.std.proofs.Common.{lit<, lit≤, arith, length-append}
use Rattle.admission.specs.Answer.{on_floor}
use Rattle.tablet.specs.declared.reading.Fault.{Fault}
use Rattle.plane.specs.Reply.{refused}
use Rattle.answers.specs.Answer.{fault_number, axis_number}
use Rattle.separation.specs.Answer.{number_of}
use Rattle.parts.specs.Part.{walk_numbers}
use Rattle.part_questions.specs.Walk.{state_of}
use Rattle.answers.specs.Answer.{face_values, length_values, width_values, box_values, yes_values, found_values, distance_values}
use Rattle.answers.specs.Answer.{beyond_values, lane_values, tangents_values, meeting_values}
use Rattle.polygon.specs.declared.point.Point.{Point}
use Rattle.direction.specs.declared.Face.{Face}
use Rattle.measure.specs.declared.Length.{Length}
use Rattle.measure.specs.declared.Width.{Width}
use Rattle.separation.specs.declared.answer.Relation.{Relation}
use Rattle.clearance.specs.declared.measured.Distance.{Distance}
use Rattle.admission.specs.declared.answer.Refusal.{Refusal}
use Rattle.part_questions.specs.declared.walk.Walk.{Walk}
use Rattle.part_questions.specs.declared.answer.Part.{Part}
use Rattle.answers.specs.declared.LeastBox.{LeastBox}
use Rattle.answers.specs.declared.Beyond.{Beyond}
use Rattle.answers.specs.declared.Nearest.{Nearest}
use Rattle.answers.specs.declared.Gap.{Gap}
use Rattle.answers.specs.declared.Meeting.{Meeting}
use Rattle.answers.specs.declared.Drive.{Drive}
use Rattle.answers.specs.declared.Lane.{Lane}
use Rattle.answers.specs.declared.Tangents.{Tangents}
use Rattle.answers.specs.declared.Corner.{Corner}
use Rattle.answers.specs.declared.Unread.{Unread}
use Rattle.answers.specs.declared.Addition.{Addition}
use Rattle.answers.specs.declared.Entry.{Entry}
use Rattle.answers.specs.Answer.{Told, of_drive, of_greatest}
use Rattle.answers.specs.Answer.{of_area, of_box, of_nearest, of_gap, of_contact, of_entry}
use Rattle.answers.specs.Answer.{of_refusal, of_unread, of_answer, of_furthest, of_length, of_width, of_relation}
use Rattle.answers.specs.Answer.{of_inside, of_offer, of_separator, of_clearance, of_excess, of_passage, of_tangents, of_tablet}
use Rattle.answers.specs.Answer.{of_addition}
use Rattle.part_questions.specs.Answer.{of_begun, of_part}
use Rattle.wire.specs.Heard.{Room}

pub refusal-room : (x : Refusal) → Room (of_refusal x)
refusal-room (Refusal.Count s) = (lit< tt, lit≤ tt)
refusal-room (Refusal.Corners s) = (lit< tt, lit≤ tt)
refusal-room (Refusal.Range s) = (lit< tt, lit≤ tt)
refusal-room (Refusal.Side s e c) = (lit< tt, lit≤ tt)
refusal-room (Refusal.Start s) = (lit< tt, lit≤ tt)
refusal-room Refusal.LargeAnswer = (lit< tt, lit≤ tt)
refusal-room Refusal.FarAnswer = (lit< tt, lit≤ tt)
refusal-room Refusal.Room = (lit< tt, lit≤ tt)
refusal-room Refusal.NotApart = (lit< tt, lit≤ tt)
refusal-room Refusal.Flat = (lit< tt, lit≤ tt)
refusal-room Refusal.Direction = (lit< tt, lit≤ tt)
refusal-room Refusal.NotPrimitive = (lit< tt, lit≤ tt)
refusal-room Refusal.Floors = (lit< tt, lit≤ tt)
refusal-room Refusal.NotAPlace = (lit< tt, lit≤ tt)
refusal-room (Refusal.Damaged p) = (lit< tt, lit≤ tt)
refusal-room Refusal.Full = (lit< tt, lit≤ tt)
refusal-room Refusal.NoRecord = (lit< tt, lit≤ tt)
refusal-room Refusal.TooFew = (lit< tt, lit≤ tt)

pub unread-room : (x : Unread) → Room (of_unread x)
unread-room x = go x.fault
  where
    go : (f : Fault) → Room (refused (fault_number f) (axis_number x.axis ∷ []))
    go Fault.NotFinite = (lit< tt, lit≤ tt)
    go Fault.NotWhole = (lit< tt, lit≤ tt)
    go Fault.Far = (lit< tt, lit≤ tt)

-- ---- answers with their floor

pub floor-room : {T : Type 0} (values : T → List ℤ) → ((x : T) → length (values x) ≤ 8) → (r : Told T) → Room (on_floor values r)
floor-room values few (Ok a) =
    let some = few a.answer in omega (arith, length-append (values a.answer) (pos a.floor ∷ []))
floor-room values few (Err r) = refusal-room r

found-few : {T : Type 0} (values : T → List ℤ) → ((x : T) → length (values x) ≤ 7) → (o : Option T) → length (found_values values o) ≤ 8
found-few values few None = lit≤ tt
found-few values few (Some x) = let some = few x in omega arith

pub distance-few : (o : Option Distance) → length (distance_values o) ≤ 6
distance-few None = lit≤ tt
distance-few (Some (Distance.Corners i j s w)) = lit≤ tt
distance-few (Some (Distance.OnSecond c e t q w)) = lit≤ tt
distance-few (Some (Distance.OnFirst c e t q w)) = lit≤ tt

yes-few : (b : Bool) → length (yes_values b) ≤ 8
yes-few b = lit≤ tt

beyond-few : (o : Option Beyond) → length (beyond_values o) ≤ 8
beyond-few None = lit≤ tt
beyond-few (Some (Beyond.Corners c j d u)) = lit≤ tt
beyond-few (Some (Beyond.Edge c e t q u)) = lit≤ tt

pub answer-room : (x : Told ℕ) → Room (of_answer x)
answer-room x = floor-room (λ n. pos n ∷ []) (λ n. lit≤ tt) x

pub begun-room : (x : Told Walk) → Room (of_begun x)
begun-room x = floor-room (λ w. walk_numbers (state_of w)) (λ w. lit≤ tt) x

pub part_room : (x : Told Part) → Room (of_part x)
part_room x = floor-room (λ p. pos p.count ∷ walk_numbers (state_of p.walk)) (λ p. lit≤ tt) x

pub furthest-room : (x : Told Face) → Room (of_furthest x)
furthest-room x = floor-room face_values (λ f. lit≤ tt) x

pub length-room : (x : Told Length) → Room (of_length x)
length-room x = floor-room length_values (λ l. lit≤ tt) x

pub area-room : (x : Told ℕ) → Room (of_area x)
area-room x = floor-room (λ twice. pos twice ∷ []) (λ a. lit≤ tt) x

pub width_room : (x : Told Width) → Room (of_width x)
width_room x = floor-room width_values (λ w. lit≤ tt) x

pub box-room : (x : Told LeastBox) → Room (of_box x)
box-room x = floor-room box_values (λ b. lit≤ tt) x

pub relation-room : (x : Told Relation) → Room (of_relation x)
relation-room x = floor-room (λ x. number_of x ∷ []) (λ x. lit≤ tt) x

pub inside-room : (x : Told Bool) → Room (of_inside x)
inside-room x = floor-room yes_values yes-few x

pub offer-room : (x : Told Bool) → Room (of_offer x)
offer-room x = floor-room yes_values yes-few x

pub separator-room : (x : Told (Option Point)) → Room (of_separator x)
separator-room x = floor-room (found_values (λ d. d.x ∷ d.y ∷ [])) (found-few _ (λ d. lit≤ tt)) x

pub clearance-room : (x : Told (Option Distance)) → Room (of_clearance x)
clearance-room x = floor-room distance_values (λ o. let few = distance-few o in omega arith) x

pub nearest-room : (x : Told Nearest) → Room (of_nearest x)
nearest-room x = floor-room (λ n. pos n.name ∷ distance_values n.distance) (λ n. let few = distance-few n.distance in omega arith) x

pub gap-room : (x : Told Gap) → Room (of_gap x)
gap-room x = floor-room (λ g. pos g.name ∷ pos g.other ∷ distance_values g.distance)
    (λ g. let few = distance-few g.distance in omega arith) x

pub excess-room : (x : Told (Option Beyond)) → Room (of_excess x)
excess-room x = floor-room beyond_values beyond-few x

pub passage-room : (x : Told (Option Lane)) → Room (of_passage x)
passage-room x = floor-room (found_values lane_values) (found-few _ (λ l. lit≤ tt)) x

pub contact-room : (x : Told (Option Meeting)) → Room (of_contact x)
contact-room x = floor-room (found_values meeting_values) (found-few _ (λ m. lit≤ tt)) x

pub tangents-room : (x : Told Tangents) → Room (of_tangents x)
tangents-room x = floor-room tangents_values (λ t. lit≤ tt) x

pub entry-room : (x : Told Entry) → Room (of_entry x)
entry-room x = floor-room (λ e. pos e.count ∷ pos e.name ∷ []) (λ e. lit≤ tt) x

pub drive-room : (x : Told (Option Drive)) → Room (of_drive x)
drive-room x = floor-room (found_values (λ d. pos d.name ∷ meeting_values d.meeting)) (found-few _ (λ d. lit≤ tt)) x

pub greatest-room : (x : Told Length) → Room (of_greatest x)
greatest-room x = floor-room length_values (λ l. lit≤ tt) x

pub tablet-room : (x : Result Corner Unread) → Room (of_tablet x).reply
tablet-room (Ok c) = lit≤ tt
tablet-room (Err u) = unread-room u

pub addition-room : (x : Result Addition Refusal) → Room (of_addition x)
addition-room (Ok Addition.Finished) = lit≤ tt
addition-room (Ok Addition.Cut) = lit≤ tt
addition-room (Err r) = refusal-room r
