-- A walk along the records of a log, by what is still to come of a floor.
--     from_step, from_end              how the current shapes from a place on go on, and end
--     rows_step, pairs-step, later-step, length-step     the same of their rows, pairs, pairs with one record, and count
--     walk_start, walk-next            what a loop knows at a place
--     judging-start, -next, -refused, -end     the moves of the loop that judges sizes
--     counting-start, -next, -end      the moves of the loop that counts
--     walk-sound, walk-fits            the record there is good, and if it is one of the floor's its grown shape fits
use Rattle.std.specs.Prelude.{◌≡◌, Bool, not, ◌&&◌, List, [], ◌∷◌, ◌++◌, map, ℕ, ◌+◌, ◌≤◌, length, drop}
use Rattle.std.proofs.Math.Path.{refl, ap}
use Rattle.std.proofs.Common.{sym, ◌∙◌, subst, append_assoc, append-nil, arith}
use Rattle.std.proofs.Math.Bool.{true, false, cond}
use Rattle.plane.specs.Point.{Point}
use Rattle.plane.specs.Reply.{Reply, Row, NoneApply}
use Rattle.plane.specs.Output.{size_rows}
use Rattle.plane.proofs.theory.lists.Sought.{true-not-false}
use Rattle.admission.specs.Admission.{Refuses}
use Rattle.admission.specs.theory.Judged.{refuses-append, refuses-join}
use Rattle.journal.specs.Format.{whole, records, name}
use Rattle.journal.specs.Reading.{damaged, held}
use Rattle.journal.specs.Current.{current, keep, is_around, around}
use Rattle.journal.specs.Survey.{record_at, next_at, Sound}
use Rattle.journal.proofs.theory.Survey.{next-inside}
use Rattle.journal.proofs.theory.Stepping.{records-step, records-end, later-good}
use Rattle.gaps.specs.Gap.{grown_of, pairs_of, size_rows_of}
use Rattle.gaps.specs.Search.{pair_at, from, is_on, Fits, rows_at, pairs_at, tried_at, Walk}

module _ (f : ℕ) (b : List ℕ) (p : ℕ) where
  abbrev here : List ℕ
  here = record_at b p

  abbrev later : List (List ℕ)
  later = records (drop (next_at b p) b)

  -- by what the two tests say of the record
  kept : (s t : Bool) → held (name here) later ≡ s → is_around f 65536 here ≡ t
      → around f 65536 (here ∷ later) ≡ cond (not s && t) (here ∷ around f 65536 later) (around f 65536 later)
  unfolding around
  kept true true e k = ap (λ (x : Bool). keep (is_around f 65536) (cond x (current later) (here ∷ current later))) e
  kept true false e k = ap (λ (x : Bool). keep (is_around f 65536) (cond x (current later) (here ∷ current later))) e
  kept false true e k =
      ap (λ (x : Bool). keep (is_around f 65536) (cond x (current later) (here ∷ current later))) e
      ∙ ap (λ (x : Bool). cond x (here ∷ keep (is_around f 65536) (current later)) (keep (is_around f 65536) (current later))) k
  kept false false e k =
      ap (λ (x : Bool). keep (is_around f 65536) (cond x (current later) (here ∷ current later))) e
      ∙ ap (λ (x : Bool). cond x (here ∷ keep (is_around f 65536) (current later)) (keep (is_around f 65536) (current later))) k

  pub from_step : whole (drop p b) ≡ true → {t : Bool} → is_on f b p ≡ t
      → from f b p ≡ cond t (here ∷ from f b (next_at b p)) (from f b (next_at b p))
  unfolding is_on
  from_step w e =
      ap (around f 65536) (records-step b p w) ∙ kept (held (name here) later) (is_around f 65536 here) refl refl
      ∙ ap (λ (t : Bool). cond t (here ∷ from f b (next_at b p)) (from f b (next_at b p))) e

  pub from_end : whole (drop p b) ≡ false → from f b p ≡ []
  unfolding around
  from_end w = ap (around f 65536) (records-end b p w)

-- 6 and 7 of a list of records
module _ (A : List Point) where
  append-parts : (vs ws : List Row) → NoneApply (vs ++ ws) → NoneApply vs × NoneApply ws
  append-parts [] ws h = (tt, h)
  append-parts (v ∷ vs) ws h = let r = append-parts vs ws h.1 in ((h.0, r.0), r.1)

  pub sized-parts : (r : List ℕ) (rs : List (List ℕ)) → NoneApply (size_rows_of A (r ∷ rs)) → Fits A r × NoneApply (size_rows_of A rs)
  sized-parts r rs h = append-parts (size_rows (grown_of A r)) (size_rows_of A rs) h

  pub walk_start : (b : List ℕ) (f : ℕ) → damaged (records b) ≡ false → NoneApply (size_rows_of A (from f b 0)) → Walk A b f 0
  walk_start b f g s = record { inside = omega arith; good = g; sized = s }

  module _ {b : List ℕ} {f p : ℕ} (k : Walk A b f p) (w : whole (drop p b) ≡ true) where
    pub walk-sound : Sound b p
    walk-sound = record { here = w; good = k.good }

    walk-parts : (t : Bool) → is_on f b p ≡ t → (t ≡ true → Fits A (record_at b p)) × NoneApply (size_rows_of A (from f b (next_at b p)))
    walk-parts true e =
        let parts = sized-parts (record_at b p) (from f b (next_at b p))
        (subst (λ rs. NoneApply (size_rows_of A rs)) (from_step f b p w e) k.sized) in
        ((λ q. parts.0), parts.1)
    walk-parts false e =
        ((λ q. true-not-false q refl), subst (λ rs. NoneApply (size_rows_of A rs)) (from_step f b p w e) k.sized)

    pub walk-next : Walk A b f (next_at b p)
    walk-next = record { inside = next-inside b p w; good = later-good walk-sound; sized = (walk-parts (is_on f b p) refl).1 }

    pub walk-fits : is_on f b p ≡ true → Fits A (record_at b p)
    walk-fits e = (walk-parts true e).0 refl

-- ---- judging, shape by shape

-- the rows of the records before place p pass, and the rest are those from p on
pub record Judging (A : List Point) (b : List ℕ) (f p : ℕ) : Type 0 where
  pub inside : p ≤ length b
  pub good : damaged (records (drop p b)) ≡ false
  pub before : List Row
  pub pass : NoneApply before
  pub all : size_rows_of A (from f b 0) ≡ before ++ size_rows_of A (from f b p)

none-join : (vs ws : List Row) → NoneApply vs → NoneApply ws → NoneApply (vs ++ ws)
none-join [] ws h k = k
none-join (v ∷ vs) ws h k = (h.0, none-join vs ws h.1 k)

pub judging-start : (A : List Point) (b : List ℕ) (f : ℕ) → damaged (records b) ≡ false → Judging A b f 0
judging-start A b f g = record { inside = omega arith; good = g; before = []; pass = tt; all = refl }

-- ---- what is to come, as a loop takes it

module _ (f : ℕ) (b : List ℕ) (p : ℕ) (w : whole (drop p b) ≡ true) where
  abbrev next : List (List ℕ)
  next = from f b (next_at b p)

  split : {X : Type 0} (of : List (List ℕ) → List X) (one : List X) → of (record_at b p ∷ next) ≡ one ++ of next
      → of (from f b p) ≡ cond (is_on f b p) one [] ++ of next
  split of one e = go (is_on f b p) refl
    where
      go : (t : Bool) → is_on f b p ≡ t → of (from f b p) ≡ cond t one [] ++ of next
      go true k = ap of (from_step f b p w k) ∙ e
      go false k = ap of (from_step f b p w k)

  pub rows_step : (A : List Point) → size_rows_of A (from f b p) ≡ rows_at A f b p ++ size_rows_of A next
  rows_step A = split (size_rows_of A) (size_rows (grown_of A (record_at b p))) refl

  pub pairs-step : pairs_of (from f b p) ≡ pairs_at f b p ++ pairs_of next
  pairs-step = split pairs_of (map (λ s. (record_at b p, s)) next) refl

  pub later-step : (q : ℕ) → map (λ s. (record_at b q, s)) (from f b p) ≡ tried_at f b q p ++ map (λ s. (record_at b q, s)) next
  later-step q = split (map (λ s. (record_at b q, s))) (pair_at b q p ∷ []) refl

  pub length-step : length (from f b p) ≡ cond (is_on f b p) 1 0 + length next
  length-step = go (is_on f b p) refl
    where
      go : (t : Bool) → is_on f b p ≡ t → length (from f b p) ≡ cond t 1 0 + length next
      go true k = let e = ap length (from_step f b p w k) in omega (arith, e)
      go false k = let e = ap length (from_step f b p w k) in omega (arith, e)

module _ {A : List Point} {b : List ℕ} {f p : ℕ} (k : Judging A b f p) where
  abbrev Rows : List Row
  Rows = size_rows_of A (from f b 0)

  module _ (w : whole (drop p b) ≡ true) where
    pub judging-sound : Sound b p
    judging-sound = record { here = w; good = k.good }

    -- the rows before, those of the record here, and the others
    here-all : Rows ≡ k.before ++ (rows_at A f b p ++ size_rows_of A (from f b (next_at b p)))
    here-all = k.all ∙ ap (λ (vs : List Row). k.before ++ vs) (rows_step f b p w A)

    pub judging-next : NoneApply (rows_at A f b p) → Judging A b f (next_at b p)
    judging-next n = record {
      inside = next-inside b p w;
      good = later-good judging-sound;
      before = k.before ++ rows_at A f b p;
      pass = none-join k.before (rows_at A f b p) k.pass n;
      all = here-all ∙ sym (append_assoc k.before (rows_at A f b p) (size_rows_of A (from f b (next_at b p))));
    }

    pub judging-refused : {r : Reply} → Refuses (rows_at A f b p) r → Refuses Rows r
    judging-refused {r} h = subst (λ (vs : List Row). Refuses vs r) (sym here-all)
        (refuses-join k.before k.pass (refuses-append (size_rows_of A (from f b (next_at b p))) h))

  pub judging-end : whole (drop p b) ≡ false → NoneApply Rows
  judging-end w =
      let none = ap (λ (rs : List (List ℕ)). k.before ++ size_rows_of A rs) (from_end f b p w) in
      subst NoneApply (sym (k.all ∙ none ∙ append-nil k.before)) k.pass

-- ---- counting

pub record Counting (b : List ℕ) (f n p : ℕ) : Type 0 where
  pub inside : p ≤ length b
  pub good : damaged (records (drop p b)) ≡ false
  pub few : n ≤ p
  pub total : n + length (from f b p) ≡ length (from f b 0)

pub counting-start : (b : List ℕ) (f : ℕ) → damaged (records b) ≡ false → Counting b f 0 0
counting-start b f g =
    let total : 0 + length (from f b 0) ≡ length (from f b 0) = omega arith in
    record { inside = omega arith; good = g; few = omega arith; total = total }

pub counting-next : {b : List ℕ} {f n p : ℕ} → Counting b f n p → whole (drop p b) ≡ true
    → Counting b f (cond (is_on f b p) (n + 1) n) (next_at b p)
counting-next {b} {f} {n} {p} k w = go (is_on f b p) (length-step f b p w)
  where
    go : (t : Bool) → length (from f b p) ≡ cond t 1 0 + length (from f b (next_at b p))
        → Counting b f (cond t (n + 1) n) (next_at b p)
    go true e = record {
      inside = next-inside b p w;
      good = later-good (record { here = w; good = k.good });
      few = omega (arith, k.few);
      total = omega (arith, k.total, e);
    }
    go false e = record {
      inside = next-inside b p w;
      good = later-good (record { here = w; good = k.good });
      few = omega (arith, k.few);
      total = omega (arith, k.total, e);
    }

pub counting-end : {b : List ℕ} {f n p : ℕ} → Counting b f n p → whole (drop p b) ≡ false → n ≡ length (from f b 0)
counting-end {b} {f} {n} {p} k w = let e = ap length (from_end f b p w) in omega (arith, k.total, e)
