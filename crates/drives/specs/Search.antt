-- The search for the first shape that is met, as the code goes along the records. Our own, not of documents 01 and 02.
--     found_numbers s          what is answered of what is found
--     is_latest b p            no later record has the name of the one at place p
--     is_sooner m s            the fraction of the meeting m is less than that of what is found, or nothing is found
--     soonest n m             the shape with a name, which is met there
--     MetAs t u G m           m is where the grown shape G is met, if it is a shape
--     kept_of now name m s     what is found once a record is looked at: its name, whether it is current, and where its shape is met
--     Met A t u r m           the record r is met at the fraction of m, with its safe millimetres
--     Still A t u all s rest  the first of all is the first of what is found and the rest
--     Onward A t u f b p s r  looking at the record at place p turns s into r, whatever the records are
use Rattle.std.specs.Prelude.{◌≡◌, Bool, true, not, cond, ◌&&◌, List, ◌∷◌, ℕ, ◌*◌, ltb, ℤ, pos, drop, Option, Some, None}
use Rattle.plane.specs.Point.{Point}
use Rattle.plane.specs.Reply.{NoneApply}
use Rattle.plane.specs.Output.{size_rows}
use Rattle.plane.specs.Distance.{over}
use Rattle.journal.specs.Format.{records, name}
use Rattle.journal.specs.Reading.{held}
use Rattle.journal.specs.Current.{keep}
use Rattle.journal.specs.Survey.{record_at, next_at}
use Rattle.motion.specs.Contact.{contact, safe, contact_numbers}
use Rattle.contact.specs.Share.{meeting_numbers}
use Rattle.answers.specs.declared.Meeting.{Meeting}
use Rattle.gaps.specs.Gap.{grown_of}
use Rattle.gaps.specs.Search.{from}
use Rattle.drives.specs.Drive.{is_met, soonest_numbers}
use Rattle.answers.specs.declared.Drive.{Drive}
use Rattle.answers.specs.Answer.{found_values, meeting_values}

abbrev pub is_latest : List ℕ → ℕ → Bool
is_latest b p = not (held (name (record_at b p)) (records (drop (next_at b p) b)))

abbrev pub found_numbers : Option Drive → List ℤ
found_numbers s = found_values (λ d. pos d.name ∷ meeting_values d.meeting) s

abbrev pub is_sooner : Meeting → Option Drive → Bool
is_sooner m None = true
is_sooner m (Some s) = ltb (m.numerator * s.meeting.denominator) (s.meeting.numerator * m.denominator)

abbrev pub MetAs : Point → Point → List Point → Option Meeting → Type 0
MetAs t u G m = NoneApply (size_rows G) → meeting_numbers m ≡ contact_numbers t u G

abbrev pub soonest : ℕ → Meeting → Drive
soonest n m = record { name = n; meeting = m }

abbrev pub kept_of : Bool → ℕ → Option Meeting → Option Drive → Option Drive
kept_of now n None s = s
kept_of now n (Some m) s = cond (is_sooner m s && now) (Some (soonest n m)) s

pub record Met (A : List Point) (t u : Point) (r : List ℕ) (m : Meeting) : Type 0 where
  pub fraction-is : over (pos m.numerator) (pos m.denominator) ≡ contact t u (grown_of A r)
  pub safe-is : m.safe ≡ safe t u (grown_of A r)

pub record Best (A : List Point) (t u : Point) (all : List (List ℕ)) (s : Drive) (rest : List (List ℕ)) : Type 0 where
  pub one : List ℕ
  pub name-is : name one ≡ s.name
  pub met : Met A t u one s.meeting
  pub still : soonest_numbers A t u (keep (is_met A t u) all) ≡ soonest_numbers A t u (one ∷ keep (is_met A t u) rest)

abbrev pub Still : List Point → Point → Point → List (List ℕ) → Option Drive → List (List ℕ) → Type 0
Still A t u all None rest = soonest_numbers A t u (keep (is_met A t u) all) ≡ soonest_numbers A t u (keep (is_met A t u) rest)
Still A t u all (Some s) rest = Best A t u all s rest

abbrev pub Onward : List Point → Point → Point → ℕ → List ℕ → ℕ → Option Drive → Option Drive → Type 0
Onward A t u f b p s r = (all : List (List ℕ)) → Still A t u all s (from f b p) → Still A t u all r (from f b (next_at b p))
