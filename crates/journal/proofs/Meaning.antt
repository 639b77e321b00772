-- What the definitions mean, in the words of document 02, W5 and W11. Each theorem is proved in the theory; here it is only cited.
--     records       when a record is whole; a log is its records and a torn rest; what a recorded shape of either kind reads as; when a
--                   record is bad; the latest counts
--     reading       the table, in its order, and the place that 15 gives
--     entries       the current shapes: what each name reads as, each name once; after an addition
--     adding        the table, in its order; a refused, a finished and a cut addition; allowances; whatever is torn after the end
--     histories     the whole claim: reading gives for each name the last finished addition, and 15 does not come; from a new log, and
--                   from any log without a bad record, so from one of kind 1 as well
use Rattle.std.specs.Prelude.{◌≡◌, true, false, cond, List, [], ◌∷◌, ◌++◌, ℕ, suc, ◌+◌, ◌*◌, ◌-◌, ◌≤◌, ◌<◌, eqb, leb, length, get_or, take}
use Rattle.std.specs.Prelude.{drop, set, replicate, ℤ, pos}
use Rattle.std.proofs.Common.{ap}
use Rattle.plane.specs.Point.{points}
use Rattle.plane.specs.Reply.{answered, refused, Row, NoneApply, First}
use Rattle.plane.specs.Refusal.{Valid}
use Rattle.plane.specs.Output.{room_row}
use Rattle.plane.specs.Floor.{on, corners, no_shape}
use Rattle.plane.specs.Question.{table, reply, output, written, writes}
use Rattle.plane.proofs.theory.refusals.Rows.{first_row-given, first_row-none, first_row-answered, first_row-refused}
use Rattle.plane.proofs.theory.refusals.Asked.{asked-given, asked-refused, asked-none, asked-answered}
use Rattle.journal.specs.Format.{recorded, recorded_plain, whole, records, name, floor, list, content, bad}
use Rattle.journal.specs.Reading.{damaged, bad_place, held, latest, ask_read, showing}
use Rattle.journal.specs.Current.{current, keep, is_other, ask_entry, with_name}
use Rattle.journal.specs.Adding.{joined, end, stores, made, add_rows, add_reply, added}
use Rattle.journal.specs.Facts.{Whole, Good, FirstBad, AllRecorded, Holds}
use Rattle.journal.specs.History.{Addition, fresh, after, is_finished, last_since, last_finished}
use Rattle.journal.proofs.theory.Kind.{good→facts, facts→good}
use Rattle.journal.proofs.theory.Records.{whole→facts, facts→whole, split, end-torn}
use Rattle.journal.proofs.theory.Read.{recorded-name, recorded-floor, recorded-list, recorded-good}
use Rattle.journal.proofs.theory.Read.{plain_entry, plain-name, plain-floor, plain-list, plain-good}
use Rattle.journal.proofs.theory.Reading.{first-bad, latest-snoc, read_same}
use Rattle.journal.proofs.theory.Stores.{cut-seen}
use Rattle.journal.proofs.theory.Added.{kept-log, added-seen, finished-log, finished-read, finished-others, unfinished-seen}
use Rattle.journal.proofs.theory.Added.{nothing-allowed, one-more-allowed, enough-allowed, sound-added}
use Rattle.journal.proofs.theory.Current.{entry-held, entry-latest, names_apart, held-entry, entry-reply, entry-output}
use Rattle.journal.proofs.theory.Current.{finished-current, unfinished-current}
use Rattle.journal.proofs.theory.History.{after-sound, after_read, fresh-sound, fresh-read, written-sound}

-- ---- records

-- "Length 0, fewer than two bytes left, a record running past the end, or a missing last byte ends the book": none of the four, and
-- the record is whole
pub whole-record-has-all : (t : List ℕ) → whole t ≡ true → Whole t
whole-record-has-all t h = whole→facts t h

pub record-with-all-is-whole : (t : List ℕ) → Whole t → whole t ≡ true
record-with-all-is-whole t w = facts→whole t w

-- the records follow each other from the front, and no whole record is where they end
pub log-is-its-records : (b : List ℕ) → (b ≡ joined (records b) ++ drop (end b) b) × (whole (drop (end b) b) ≡ false)
log-is-its-records b = (split b, end-torn b)

-- "Book kind 2 puts a two-byte floor after the name": what was recorded is read back, and is not refused
pub recorded-shape-reads-back : (n f : ℕ) (l : List ℤ) → n < 65536 → f < 65536 → Valid l → let r = recorded n f l in
    (name r ≡ n) × (floor r ≡ f) × (list r ≡ l) × (bad r ≡ false)
recorded-shape-reads-back n f l h k v = (recorded-name n f l v h, recorded-floor n f l v k, recorded-list n f l v, recorded-good n f l v)

-- "kind 1 still reads as floor 0"
pub plain-record-reads-as-floor-0 : (n : ℕ) (l : List ℤ) → n < 65536 → Valid l → let r = recorded_plain n l in
    (name r ≡ n) × (floor r ≡ 0) × (list r ≡ l) × (bad r ≡ false)
plain-record-reads-as-floor-0 n l h v = (plain-name n l v h, plain-floor n l v, plain-list n l v, plain-good n l v)

-- "A whole record of another kind or a wrong length, or one whose corners are no shape", where "another kind is now one other than 1 and
-- 2": none of the three, and the record is not bad
pub record-not-bad-has-all : (r : List ℕ) → bad r ≡ false → Good r
record-not-bad-has-all r h = good→facts r h

pub record-with-all-is-not-bad : (r : List ℕ) → Good r → bad r ≡ false
record-with-all-is-not-bad r g = facts→good r g

-- "The latest record of a name counts"
pub latest-record-counts : (n : ℕ) (rs : List (List ℕ)) (r : List ℕ)
    → latest n (rs ++ (r ∷ [])) ≡ cond (eqb (name r) n) (on (list r) (floor r)) (latest n rs)
latest-record-counts n rs r = latest-snoc r n rs

-- ---- reading

-- "the byte place of the first such record"
pub place-of-first-bad-record : (rs : List (List ℕ)) → damaged rs ≡ true → FirstBad rs (bad_place rs)
place-of-first-bad-record rs d = first-bad rs d

module _ (b : List ℕ) (n : ℕ) (out : List ℤ) where
  -- 15, 19 and 8, in this order: a row that applies, with none before it, gives its refusal
  pub first-row-refuses-reading : {w : Row} → First w (table (ask_read b n out)) → reply (ask_read b n out) ≡ refused w.number w.carries
  first-row-refuses-reading f = asked-given (ask_read b n out) f

  -- and nothing else does
  pub reading-refused-by-first-row : (m : ℕ) (carries : List ℕ) → reply (ask_read b n out) ≡ refused m carries
      → (w : Row) × First w (table (ask_read b n out)) × (w.number ≡ m) × (w.carries ≡ carries)
  reading-refused-by-first-row m carries h = asked-refused (ask_read b n out) m carries h

  -- where no row applies, the reading is answered: the count of corners, and "Answers carry the floor"
  pub reading-answered-if-none : NoneApply (table (ask_read b n out)) → let found = latest n (records b) in
      reply (ask_read b n out) ≡ answered (pos (length (corners found)) ∷ pos found.floor ∷ [])
  reading-answered-if-none none = asked-none (ask_read b n out) none

  -- and only there
  pub none-if-reading-answered : (values : List ℤ) → reply (ask_read b n out) ≡ answered values → NoneApply (table (ask_read b n out))
  none-if-reading-answered values h = asked-answered (ask_read b n out) values h

-- ---- adding

module _ (b : List ℕ) (n f : ℕ) (l : List ℤ) (k : ℕ) where
  -- "Adding is refused 16 exactly when .., after 1 to 5 and 15": a row that applies, with none before it, gives its refusal
  pub first-row-refuses-adding : {w : Row} → First w (add_rows b n f l) → (added b n f l k).reply ≡ refused w.number w.carries
  unfolding added add_reply
  first-row-refuses-adding first = first_row-given _ first

  -- and nothing else does
  pub adding-refused-by-first-row : (m : ℕ) (carries : List ℕ) → (added b n f l k).reply ≡ refused m carries
      → (w : Row) × First w (add_rows b n f l) × (w.number ≡ m) × (w.carries ≡ carries)
  unfolding added add_reply
  adding-refused-by-first-row m carries h = first_row-refused (add_rows b n f l) _ m carries h

  -- where no row applies, the addition "says whether it finished": 1 exactly if the stores that it may make are enough. "one that runs
  -- out is a cut, and no refusal"
  pub adding-answered-if-none : NoneApply (add_rows b n f l)
      → (added b n f l k).reply ≡ answered (cond (leb (length (stores b (recorded n f l))) k) (pos 1) (pos 0) ∷ [])
  unfolding added add_reply
  adding-answered-if-none none = first_row-none (add_rows b n f l) _ none

  -- and only there
  pub none-if-adding-answered : (values : List ℤ) → (added b n f l k).reply ≡ answered values → NoneApply (add_rows b n f l)
  unfolding added add_reply
  none-if-adding-answered values h = first_row-answered (add_rows b n f l) _ values h

  -- "A refused addition stores nothing"
  pub refused-addition-stores-nothing : (m : ℕ) (carries : List ℕ) → (added b n f l k).reply ≡ refused m carries → (added b n f l k).log ≡ b
  refused-addition-stores-nothing m carries h = kept-log b n f l k m carries h

  module _ (done : (added b n f l k).reply ≡ answered (pos 1 ∷ [])) where
    -- "a finished one leaves the bytes before its record alone and all after it 0"
    pub finished-addition-leaves : (added b n f l k).log
        ≡ take (end b) b ++ (recorded n f l ++ replicate (length b - (end b + length (recorded n f l))) 0)
    finished-addition-leaves = finished-log b n f l k (ap is_finished done)

    module _ (name-fits : n < 65536) (out : List ℤ) where
      -- its name then reads as its shape, on its floor: only 8 can come
      pub finished-addition-is-read : f < 65536 → written (ask_read (added b n f l k).log n out)
          ≡ written (writes (no_shape f) (room_row (points l) out ∷ []) (points l) out)
      finished-addition-is-read floor-fits = finished-read b n f l k (ap is_finished done) name-fits out floor-fits

      -- and every other name as before
      pub finished-addition-keeps-other-names : (m : ℕ) → (m ≡ n → ⊥)
          → written (ask_read (added b n f l k).log m out) ≡ written (ask_read b m out)
      finished-addition-keeps-other-names m other = finished-others b n f l k (ap is_finished done) name-fits out m other

  module _ (cut : (added b n f l k).reply ≡ answered (pos 0 ∷ [])) where
    -- a cut addition is never stored whole: the log's records are those from before
    pub cut-addition-is-not-stored-whole : records (added b n f l k).log ≡ records b
    cut-addition-is-not-stored-whole = unfinished-seen b n f l k (ap is_finished cut)

    -- and every name reads as before
    pub cut-addition-changes-no-reading : (m : ℕ) (out : List ℤ)
        → written (ask_read (added b n f l k).log m out) ≡ written (ask_read b m out)
    cut-addition-changes-no-reading m out = read_same (added b n f l k).log m out b cut-addition-is-not-stored-whole

  -- whatever log it is added to, torn or not, and whatever is allowed: the new record is there if the addition finished, and nothing
  -- else changes
  pub any-log-shows-old-or-new : records (added b n f l k).log
      ≡ cond (is_finished (added b n f l k).reply) (records b ++ (recorded n f l ∷ [])) (records b)
  any-log-shows-old-or-new = added-seen b n f l k

  -- "With none allowed the book stays as it was"
  pub none-allowed-keeps-log : (added b n f l 0).log ≡ b
  none-allowed-keeps-log = nothing-allowed b n f l

  -- "the books left by some allowance and by one store more differ in at most one byte": at the place p, which has x afterwards
  pub one-store-more-changes-one-byte : (p : ℕ) × (x : ℕ) × ((added b n f l (suc k)).log ≡ set (added b n f l k).log p x)
  one-store-more-changes-one-byte = one-more-allowed b n f l k

  -- "twice the book's count of bytes is always enough to finish"
  pub twice-the-bytes-finish : 2 * length b ≤ k → (values : List ℤ) → (added b n f l k).reply ≡ answered values
      → (added b n f l k).reply ≡ answered (pos 1 ∷ [])
  twice-the-bytes-finish h values e = enough-allowed b n f l k h values e

-- an addition as W5 made it, of kind 1, left the records so, cut or not: a log from then has no others
pub plain-addition-shows-old-or-new : (b : List ℕ) (n : ℕ) (l : List ℤ) (k : ℕ) → Valid l → let r = recorded_plain n l in
    length r ≤ length b - end b
    → records (made (take k (stores b r)) b) ≡ cond (leb (length (stores b r)) k) (records b ++ (r ∷ [])) (records b)
plain-addition-shows-old-or-new b n l k v room = cut-seen b (recorded_plain n l) (plain_entry n l v) room k

-- ---- entries (our own)

module _ (rs : List (List ℕ)) where
  -- a current record is what its name reads as
  pub entry-is-latest : (k : ℕ) → k < length (current rs) → let r = get_or (current rs) k [] in latest (name r) rs ≡ content r
  entry-is-latest k h = entry-latest rs k h

  -- no name is there twice
  pub entries-have-different-names : (i j : ℕ) → i < length (current rs) → j < length (current rs)
      → name (get_or (current rs) i []) ≡ name (get_or (current rs) j []) → i ≡ j
  entries-have-different-names i j h l same = names_apart rs i j h l same

  -- every name that a record has is there, and no other
  pub held-name-has-entry : (n : ℕ) → held n rs ≡ true → Holds n (current rs)
  held-name-has-entry n h = held-entry n rs h

  pub entry-has-held-name : (k : ℕ) → k < length (current rs) → held (name (get_or (current rs) k [])) rs ≡ true
  entry-has-held-name k h = entry-held rs k h

module _ (b : List ℕ) (k : ℕ) (out : List ℤ) where
  -- an entry is exactly what reading its name gives: the same refusals, corners and floor, and its name besides
  pub entry-is-read : k < length (current (records b)) → let n = name (get_or (current (records b)) k []) in
      (reply (ask_entry b k out) ≡ with_name n (reply (ask_read b n out))) × (output (ask_entry b k out) ≡ output (ask_read b n out))
  entry-is-read h = (entry-reply b k out h, entry-output b k out h)

  -- 15, 20 and 8: a row that applies, with none before it, gives its refusal
  pub first-row-refuses-entry : {w : Row} → First w (table (ask_entry b k out))
      → reply (ask_entry b k out) ≡ refused w.number w.carries
  first-row-refuses-entry f = asked-given (ask_entry b k out) f

  -- and nothing else does
  pub entry-refused-by-first-row : (m : ℕ) (carries : List ℕ) → reply (ask_entry b k out) ≡ refused m carries
      → (w : Row) × First w (table (ask_entry b k out)) × (w.number ≡ m) × (w.carries ≡ carries)
  entry-refused-by-first-row m carries h = asked-refused (ask_entry b k out) m carries h

module _ (b : List ℕ) (n f : ℕ) (l : List ℤ) (k : ℕ) where
  -- a finished addition puts its shape last and takes away what its name had
  pub finished-addition-is-last-entry : (added b n f l k).reply ≡ answered (pos 1 ∷ []) → n < 65536
      → current (records (added b n f l k).log) ≡ keep (is_other n) (current (records b)) ++ (recorded n f l ∷ [])
  finished-addition-is-last-entry done fits = finished-current b n f l k (ap is_finished done) fits

  -- a cut or refused one leaves the entries alone
  pub unfinished-addition-keeps-entries : is_finished (added b n f l k).reply ≡ false
      → current (records (added b n f l k).log) ≡ current (records b)
  unfinished-addition-keeps-entries stopped = unfinished-current b n f l k stopped

-- ---- histories

module _ (hs : List Addition) where
  -- "From a new book, under any additions and any cuts after any store, reading gives for each name the last finished addition", with its
  -- floor: 19 if there is none, then 8, and no 15. "or a later cut one if stored whole": by the above none is
  pub history-reads-last-finished : (m n : ℕ) (out : List ℤ)
      → written (ask_read (after hs (fresh m)) n out) ≡ written (showing (last_finished n hs (fresh m)) out)
  history-reads-last-finished m n out = fresh-read hs m n out

  -- nor does 15 come of a further addition
  pub history-adds-without-damage : (m n f : ℕ) (l : List ℤ) (k : ℕ) (carries : List ℕ)
      → (added (after hs (fresh m)) n f l k).reply ≡ refused 15 carries → ⊥
  history-adds-without-damage m n f l k carries h =
      sound-added (after hs (fresh m)) (after-sound hs (fresh m) (fresh-sound m)) n f l k carries h

  -- the same from a log b in which no record is bad, of whichever kinds they are: the last finished addition, or what b held
  module _ (b : List ℕ) (sound : damaged (records b) ≡ false) where
    pub history-reads-last-since : (n : ℕ) (out : List ℤ)
        → written (ask_read (after hs b) n out) ≡ written (showing (last_since (latest n (records b)) n hs b) out)
    history-reads-last-since n out = after_read hs b sound n out

    pub history-adds-without-new-damage : (n f : ℕ) (l : List ℤ) (k : ℕ) (carries : List ℕ)
        → (added (after hs b) n f l k).reply ≡ refused 15 carries → ⊥
    history-adds-without-new-damage n f l k carries h = sound-added (after hs b) (after-sound hs b sound) n f l k carries h

-- such is every log whose records were recorded, be it by kind 1 or by kind 2, whatever is torn after them
pub recorded-log-is-sound : (b : List ℕ) → AllRecorded (records b) → damaged (records b) ≡ false
recorded-log-is-sound b all = written-sound (records b) all
