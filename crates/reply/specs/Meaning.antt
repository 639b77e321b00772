-- No answer is cut when it crosses. The theorems are proved in the theory; here they are only cited.
use Rattle.std.specs.Prelude.{Bool, ℕ, Option, Result}
use Rattle.polygon.specs.declared.point.Point.{Point}
use Rattle.direction.specs.declared.Face.{Face}
use Rattle.measure.specs.declared.Length.{Length}
use Rattle.measure.specs.declared.Width.{Width}
use Rattle.separation.specs.declared.answer.Relation.{Relation}
use Rattle.clearance.specs.declared.measured.Distance.{Distance}
use Rattle.admission.specs.declared.answer.Refusal.{Refusal}
use Rattle.part_questions.specs.declared.walk.Walk.{Walk}
use Rattle.part_questions.specs.declared.answer.Part.{Part}
use Rattle.answers.specs.declared.LeastBox.{LeastBox}
use Rattle.answers.specs.declared.Beyond.{Beyond}
use Rattle.answers.specs.declared.Nearest.{Nearest}
use Rattle.answers.specs.declared.Gap.{Gap}
use Rattle.answers.specs.declared.Meeting.{Meeting}
use Rattle.answers.specs.declared.Drive.{Drive}
use Rattle.answers.specs.declared.Lane.{Lane}
use Rattle.answers.specs.declared.Tangents.{Tangents}
use Rattle.answers.specs.declared.Corner.{Corner}
use Rattle.answers.specs.declared.Unread.{Unread}
use Rattle.answers.specs.declared.Addition.{Addition}
use Rattle.answers.specs.declared.Entry.{Entry}
use Rattle.answers.specs.Answer.{Told, of_drive, of_greatest}
use Rattle.answers.specs.Answer.{of_area, of_box, of_nearest, of_gap, of_contact, of_entry}
use Rattle.answers.specs.Answer.{of_refusal, of_unread, of_answer, of_furthest, of_length, of_width, of_relation}
use Rattle.answers.specs.Answer.{of_inside, of_offer, of_separator, of_clearance, of_excess, of_passage, of_tangents, of_tablet}
use Rattle.answers.specs.Answer.{of_addition}
use Rattle.part_questions.specs.Answer.{of_begun, of_part}
use Rattle.wire.specs.Heard.{Room}
use Rattle.reply.specs.theory.Roomy as room

-- ---- nothing is cut: each answer has at most nine values, and each refusal has a number and carries at most three

pub refusal-has-room : (x : Refusal) → Room (of_refusal x)
refusal-has-room x = room.refusal-room x

pub unread-has-room : (x : Unread) → Room (of_unread x)
unread-has-room x = room.unread-room x

pub answer-has-room : (x : Told ℕ) → Room (of_answer x)
answer-has-room x = room.answer-room x

pub begun-has-room : (x : Told Walk) → Room (of_begun x)
begun-has-room x = room.begun-room x

pub part-has-room : (x : Told Part) → Room (of_part x)
part-has-room x = room.part_room x

pub furthest-has-room : (x : Told Face) → Room (of_furthest x)
furthest-has-room x = room.furthest-room x

pub length-has-room : (x : Told Length) → Room (of_length x)
length-has-room x = room.length-room x

pub area-has-room : (x : Told ℕ) → Room (of_area x)
area-has-room x = room.area-room x

pub width-has-room : (x : Told Width) → Room (of_width x)
width-has-room x = room.width_room x

pub box-has-room : (x : Told LeastBox) → Room (of_box x)
box-has-room x = room.box-room x

pub relation-has-room : (x : Told Relation) → Room (of_relation x)
relation-has-room x = room.relation-room x

pub inside-has-room : (x : Told Bool) → Room (of_inside x)
inside-has-room x = room.inside-room x

pub offer-has-room : (x : Told Bool) → Room (of_offer x)
offer-has-room x = room.offer-room x

pub separator-has-room : (x : Told (Option Point)) → Room (of_separator x)
separator-has-room x = room.separator-room x

pub clearance-has-room : (x : Told (Option Distance)) → Room (of_clearance x)
clearance-has-room x = room.clearance-room x

pub nearest-has-room : (x : Told Nearest) → Room (of_nearest x)
nearest-has-room x = room.nearest-room x

pub gap-has-room : (x : Told Gap) → Room (of_gap x)
gap-has-room x = room.gap-room x

pub excess-has-room : (x : Told (Option Beyond)) → Room (of_excess x)
excess-has-room x = room.excess-room x

pub passage-has-room : (x : Told (Option Lane)) → Room (of_passage x)
passage-has-room x = room.passage-room x

pub contact-has-room : (x : Told (Option Meeting)) → Room (of_contact x)
contact-has-room x = room.contact-room x

pub tangents-has-room : (x : Told Tangents) → Room (of_tangents x)
tangents-has-room x = room.tangents-room x

pub entry-has-room : (x : Told Entry) → Room (of_entry x)
entry-has-room x = room.entry-room x

pub drive-has-room : (x : Told (Option Drive)) → Room (of_drive x)
drive-has-room x = room.drive-room x

pub greatest-has-room : (x : Told Length) → Room (of_greatest x)
greatest-has-room x = room.greatest-room x

pub tablet-has-room : (x : Result Corner Unread) → Room (of_tablet x).reply
tablet-has-room x = room.tablet-room x

pub addition-has-room : (x : Result Addition Refusal) → Room (of_addition x)
addition-has-room x = room.addition-room x
