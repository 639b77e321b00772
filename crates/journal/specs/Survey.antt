-- What passes over a log tell of it. Our own, not of document 02.
--     surveyed b         where the first bad record is, as an error, or where the last whole record ends if none is bad
--     damaged_at p, refused_at d    the error that names the place p, and refusal 15 of it
--     Legible b p        the record at place p is inside the log, and long enough for what a record of its kind says
--     Ample b l          the list l has room for the numbers of any shape that a record of the log b may have
--     record_at b p       the record at place p; `next_at b p` the place after it
--     Sound b p          there is a whole record at place p, and none from there on is bad
--     Reached b p        the same with or without a record there: p is inside the log, and no record from there on is bad
--     Stated b p h       h is what the record at place p says: its name, its floor, and where its numbers are and how many
--     newer n h r        what is found once a record with this head is looked at: it replaces what was found if it has the name
--     Latest n b r       this of the latest record of the name n, or nowhere
--     Entered b k r      the head of the current record at position k, or that there are too few
use Rattle.std.specs.Prelude.{◌≡◌, true, false, cond, Option, None, Some, Result, Ok, Err, List, [], ℕ, ◌+◌, ◌*◌, ◌%◌, ◌≤◌, ◌<◌, eqb}
use Rattle.std.specs.Prelude.{length, get_or, take, drop}
use Rattle.plane.specs.Limits.{max_corners}
use Rattle.endian.specs.Bytes.{words_at}
use Rattle.journal.specs.Format.{fixed_bytes, size, whole, records, kind, name, floor, list}
use Rattle.journal.specs.Reading.{damaged, bad_place, held, latest}
use Rattle.journal.specs.Current.{current}
use Rattle.journal.specs.Adding.{end}
use Rattle.admission.specs.declared.answer.Refusal.{Refusal}
use Rattle.journal.specs.declared.survey.Damaged.{Damaged}
use Rattle.journal.specs.declared.head.Head.{Head}
use Rattle.journal.specs.declared.latest.Found.{Found}

abbrev pub damaged_at : ℕ → Damaged
damaged_at p = record { place = p }

abbrev pub refused_at : Damaged → Refusal
refused_at d = Refusal.Damaged d.place

unfoldable pub surveyed : List ℕ → Result ℕ Damaged
surveyed b = cond (damaged (records b)) (Err (damaged_at (bad_place (records b)))) (Ok (end b))

pub record Legible (b : List ℕ) (p : ℕ) : Type 0 where
  pub inside : p + (2 + size (drop p b)) ≤ length b
  pub long : fixed_bytes (kind (drop p b)) ≤ size (drop p b)

abbrev pub Ample : {X : Type 0} → List ℕ → List X → Type 0
Ample b buffer = (n : ℕ) → 4 * n ≤ length b → n ≤ 2 * max_corners → n ≤ length buffer

abbrev pub record_at : List ℕ → ℕ → List ℕ
record_at b p = let t = drop p b in take (2 + size t) t

abbrev pub next_at : List ℕ → ℕ → ℕ
next_at b p = p + (2 + size (drop p b))

pub record Sound (b : List ℕ) (p : ℕ) : Type 0 where
  pub here : whole (drop p b) ≡ true
  pub good : damaged (records (drop p b)) ≡ false

pub record Reached (b : List ℕ) (p : ℕ) : Type 0 where
  pub inside : p ≤ length b
  pub good : damaged (records (drop p b)) ≡ false

pub record Stated (b : List ℕ) (p : ℕ) (h : Head) : Type 0 where
  pub name-is : name (record_at b p) ≡ h.name
  pub floor-is : floor (record_at b p) ≡ h.floor
  pub list-is : list (record_at b p) ≡ words_at h.count b h.place
  pub inside : h.place + 4 * h.count ≤ length b
  pub paired : h.count % 2 ≡ 0
  pub next-is : 1 + (h.place + 4 * h.count) ≡ next_at b p
  pub name-fits : h.name < 65536
  pub floor-fits : h.floor < 65536

abbrev pub found_of : Head → Found
found_of h = record { place = h.place; count = h.count; floor = h.floor }

abbrev pub newer : ℕ → Head → Option Found → Option Found
newer n h r = cond (eqb h.name n) (Some (found_of h)) r

pub record LatestAt (n : ℕ) (b : List ℕ) (f : Found) : Type 0 where
  pub has : held n (records b) ≡ true
  pub inside : f.place + 4 * f.count ≤ length b
  pub paired : f.count % 2 ≡ 0
  pub list-is : (latest n (records b)).list ≡ words_at f.count b f.place
  pub floor-is : (latest n (records b)).floor ≡ f.floor

abbrev pub Latest : ℕ → List ℕ → Option Found → Type 0
Latest n b None = held n (records b) ≡ false
Latest n b (Some f) = LatestAt n b f

pub record EntryAt (b : List ℕ) (k : ℕ) (h : Head) : Type 0 where
  pub place : ℕ
  pub enough : k < length (current (records b))
  pub is : get_or (current (records b)) k [] ≡ record_at b place
  pub stated : Stated b place h

abbrev pub Entered : List ℕ → ℕ → Option Head → Type 0
Entered b k None = length (current (records b)) ≤ k
Entered b k (Some h) = EntryAt b k h
