-- What packing means. Each theorem is proved in the theory; here it is only cited.
--     the table        15 of the old log, then 16; a refused call stores nothing
--     finished         the new run is the packed log and zeros: what every name reads as, the entries, the shapes around
--     allowances       cut calls, one store more, enough stores, no store needed
--     calls in turn    a list of calls is one call, whichever run it begins with
--     later            additions to the old log and to the packed one
-- The old log is only read: no definition here changes it. A cut run may read as anything until a later call finishes.
use Rattle.std.specs.Prelude.{◌≡◌, false, cond, List, [], ◌∷◌, ℕ, suc, ◌+◌, ◌≤◌, ◌<◌, leb, length, get_or, set, ℤ, pos}
use Rattle.std.proofs.Common.{sym, ◌∙◌, ap}
use Rattle.plane.specs.Reply.{answered, refused, Row, NoneApply, First}
use Rattle.plane.specs.Question.{reply, written}
use Rattle.plane.proofs.theory.refusals.Rows.{first_row-given, first_row-none, first_row-answered, first_row-refused}
use Rattle.journal.specs.Format.{records}
use Rattle.journal.specs.Reading.{damaged, ask_read}
use Rattle.journal.specs.Current.{current, keep, is_other, around, ask_entry}
use Rattle.journal.specs.History.{Addition, after, is_finished}
use Rattle.packing.specs.Packing.{packed, wanted, mends_all, pack_rows, pack_reply, remade, repeated, total}
use Rattle.packing.specs.Later.{shown}
use Rattle.packing.specs.theory.Packed.{packed-le, packed-records, packed-current, packed-sound, packed-read}
use Rattle.packing.specs.theory.Packed.{packed-gone, packed-around, packed-entry, packed-all-around, packed-remade}
use Rattle.packing.specs.theory.Remade.{remade-kept, finished-sound, finished-wanted, enough-allowed, nothing-allowed}
use Rattle.packing.specs.theory.Remade.{one-more-allowed, wanted-needs-none, needs-none-wanted, remade-again, repeated-once}
use Rattle.packing.specs.theory.Remade.{repeated-log, finished-after, finished-latest}
use Rattle.packing.specs.theory.Later.{later-reads}

-- ---- the table

module _ (b : List ℕ) (but : ℕ) (t : List ℕ) (k : ℕ) where
  -- a row that applies, with none before it, gives its refusal
  pub first-row-refuses-packing : {w : Row} → First w (pack_rows b but t) → (remade b but t k).reply ≡ refused w.number w.carries
  unfolding remade pack_reply
  first-row-refuses-packing first = first_row-given _ first

  -- and nothing else does
  pub packing-refused-by-first-row : (m : ℕ) (carries : List ℕ) → (remade b but t k).reply ≡ refused m carries
      → (w : Row) × First w (pack_rows b but t) × (w.number ≡ m) × (w.carries ≡ carries)
  unfolding remade pack_reply
  packing-refused-by-first-row m carries h = first_row-refused (pack_rows b but t) _ m carries h

  -- where no row applies, a call says whether it finished: 1 exactly if the stores that it may make are enough
  pub packing-answered-if-none : NoneApply (pack_rows b but t)
      → (remade b but t k).reply ≡ answered (cond (leb (length (mends_all b but t)) k) (pos 1) (pos 0) ∷ [])
  unfolding remade pack_reply
  packing-answered-if-none none = first_row-none (pack_rows b but t) _ none

  -- and only there
  pub none-if-packing-answered : (values : List ℤ) → (remade b but t k).reply ≡ answered values → NoneApply (pack_rows b but t)
  unfolding remade pack_reply
  none-if-packing-answered values h = first_row-answered (pack_rows b but t) _ values h

  pub refused-packing-stores-nothing : (m : ℕ) (carries : List ℕ) → (remade b but t k).reply ≡ refused m carries
      → (remade b but t k).log ≡ t
  refused-packing-stores-nothing m carries h = remade-kept b but t k m carries h

-- the packed log is no longer than the log: a run as long as the old one is never refused 16
pub packed-log-is-no-longer : (b : List ℕ) (but : ℕ) → length (packed b but) ≤ length b
packed-log-is-no-longer b but = packed-le b but

-- ---- finished

module _ (b : List ℕ) (but : ℕ) (t : List ℕ) (k : ℕ) (done : (remade b but t k).reply ≡ answered (pos 1 ∷ [])) where
  -- the packed log, and zeros after it
  pub finished-run-is-wanted : (remade b but t k).log ≡ wanted b but (length t)
  finished-run-is-wanted = finished-wanted b but t k (ap is_finished done)

  old-is-sound : damaged (records b) ≡ false
  old-is-sound = finished-sound b but t k (ap is_finished done)

  -- its records are the current ones of the old log, byte for byte and in their order, without those of the name
  pub finished-run-has-current-records : records (remade b but t k).log ≡ keep (is_other but) (current (records b))
  finished-run-has-current-records = ap records finished-run-is-wanted ∙ packed-records b but (length t)

  -- all of them are current: no name is there twice
  pub finished-run-has-no-name-twice : current (records (remade b but t k).log) ≡ records (remade b but t k).log
  finished-run-has-no-name-twice =
      ap (λ (c : List ℕ). current (records c)) finished-run-is-wanted ∙ packed-current b but (length t)
      ∙ sym finished-run-has-current-records

  pub finished-run-is-sound : damaged (records (remade b but t k).log) ≡ false
  finished-run-is-sound =
      ap (λ (c : List ℕ). damaged (records c)) finished-run-is-wanted ∙ packed-sound b but (length t) old-is-sound

  -- every other name reads as before, with refusals 19 and 8
  pub other-names-read-as-before : (n : ℕ) (out : List ℤ) → (n ≡ but → ⊥)
      → written (ask_read (remade b but t k).log n out) ≡ written (ask_read b n out)
  other-names-read-as-before n out other =
      ap (λ (c : List ℕ). written (ask_read c n out)) finished-run-is-wanted ∙ packed-read b but (length t) old-is-sound n out other

  -- the name that is left out is not found
  pub name-left-out-is-not-found : (out : List ℤ) → reply (ask_read (remade b but t k).log but out) ≡ refused 19 []
  name-left-out-is-not-found out =
      ap (λ (c : List ℕ). reply (ask_read c but out)) finished-run-is-wanted ∙ packed-gone b but (length t) old-is-sound out

  -- the shapes around are the same for a question that leaves the name out, and so is all that is made of them
  pub shapes-around-stay : (f : ℕ) → around f but (records (remade b but t k).log) ≡ around f but (records b)
  shapes-around-stay f = ap (λ (c : List ℕ). around f but (records c)) finished-run-is-wanted ∙ packed-around b but (length t) f

  -- a packed log, packed again, gives the same reply and the same bytes as the old one
  pub packing-again-is-the-same : (u : List ℕ) (j : ℕ) → remade (remade b but t k).log but u j ≡ remade b but u j
  packing-again-is-the-same u j =
      ap (λ (c : List ℕ). remade c but u j) finished-run-is-wanted ∙ packed-remade b but (length t) old-is-sound u j

-- 65,536 is nobody's name, since a name has two bytes: then nobody is left out
module _ (b t : List ℕ) (k : ℕ) (bytes : (i : ℕ) → i < length b → get_or b i 0 < 256)
    (done : (remade b 65536 t k).reply ≡ answered (pos 1 ∷ [])) where
  -- every entry is the same
  pub entries-stay : (j : ℕ) (out : List ℤ) → written (ask_entry (remade b 65536 t k).log j out) ≡ written (ask_entry b j out)
  entries-stay j out =
      ap (λ (c : List ℕ). written (ask_entry c j out)) (finished-run-is-wanted b 65536 t k done)
      ∙ packed-entry b bytes (length t) (old-is-sound b 65536 t k done) j out

  -- and so are the shapes around, whomever a question leaves out
  pub all-shapes-around-stay : (f but : ℕ) → around f but (records (remade b 65536 t k).log) ≡ around f but (records b)
  all-shapes-around-stay f but =
      ap (λ (c : List ℕ). around f but (records c)) (finished-run-is-wanted b 65536 t k done) ∙ packed-all-around b bytes (length t) f but

-- ---- allowances

module _ (b : List ℕ) (but : ℕ) (t : List ℕ) where
  pub none-allowed-keeps-run : (remade b but t 0).log ≡ t
  none-allowed-keeps-run = nothing-allowed b but t

  -- at the place p, which has x afterwards
  pub one-store-more-changes-one-byte : (k : ℕ) → (p : ℕ) × (x : ℕ) × ((remade b but t (suc k)).log ≡ set (remade b but t k).log p x)
  one-store-more-changes-one-byte k = one-more-allowed b but t k

  pub as-many-stores-as-bytes-finish : (k : ℕ) → length t ≤ k → (values : List ℤ) → (remade b but t k).reply ≡ answered values
      → (remade b but t k).reply ≡ answered (pos 1 ∷ [])
  as-many-stores-as-bytes-finish k h values e = enough-allowed b but t k h values e

  -- with no store allowed the call asks whether the run is the packed log already
  pub packed-run-needs-none : NoneApply (pack_rows b but t) → t ≡ wanted b but (length t) → (remade b but t 0).reply ≡ answered (pos 1 ∷ [])
  packed-run-needs-none none e = wanted-needs-none b but t none e

  pub only-packed-run-needs-none : (remade b but t 0).reply ≡ answered (pos 1 ∷ []) → t ≡ wanted b but (length t)
  only-packed-run-needs-none h = needs-none-wanted b but t h

  -- ---- calls in turn

  -- a call that goes on where another was cut is one call with both allowances: the same reply, the same bytes
  pub cut-call-is-called-again : (k j : ℕ) → remade b but (remade b but t k).log j ≡ remade b but t (k + j)
  cut-call-is-called-again k j = remade-again b but t k j

  -- and so is any list of calls
  pub calls-are-one : (ks : List ℕ) (j : ℕ) → remade b but (repeated b but ks t) j ≡ remade b but t (total ks + j)
  calls-are-one ks j = repeated-once b but ks t j

  pub run-after-calls : (ks : List ℕ) → repeated b but ks t ≡ (remade b but t (total ks)).log
  run-after-calls ks = repeated-log b but ks t

-- whatever the run was, and whatever calls were cut before: once a call finishes, the run is the packed log
pub calls-finish-packed : (b : List ℕ) (but : ℕ) (t ks : List ℕ) (j : ℕ) → let c = repeated b but ks t in
    (remade b but c j).reply ≡ answered (pos 1 ∷ []) → (remade b but c j).log ≡ wanted b but (length t)
calls-finish-packed b but t ks j done = finished-after b but t ks j (ap is_finished done)

-- ---- later

-- additions to the old log and to the packed one, each with stores of its own: where the same ones finish, every other name reads alike
pub later-additions-read-alike : (b : List ℕ) (but : ℕ) (t : List ℕ) (k : ℕ) → let c = (remade b but t k).log in
    (remade b but t k).reply ≡ answered (pos 1 ∷ []) → (hs gs : List Addition) → shown hs c ≡ shown gs b
    → (n : ℕ) (out : List ℤ) → (n ≡ but → ⊥) → written (ask_read (after hs c) n out) ≡ written (ask_read (after gs b) n out)
later-additions-read-alike b but t k done hs gs same n out other =
    later-reads _ b (finished-run-is-sound b but t k done) (old-is-sound b but t k done) hs gs same n out
    (finished-latest b but t k (ap is_finished done) n other)
