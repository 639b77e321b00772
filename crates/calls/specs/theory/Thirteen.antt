-- What a floor that is any number means to a question, and what a host reads of it.
--     after-shapes, shapes-first, second_above     13 after the rows of the shapes
--     kept_above, answered-low                     it writes nothing, and what is answered is on a floor within the limit
--     answered-zero, separator-found               0 tells an answer
--     added-same, added-refused                    an addition to a log
use Rattle.std.specs.Prelude.{◌≡◌, refl, Bool, true, false, ◌||◌, List, [], ◌∷◌, ◌++◌, map, ℕ, ◌≤◌, ◌<◌, ltb, ℤ, pos, length, Option, Some}
use Rattle.std.specs.Prelude.{None}
use Rattle.std.proofs.Math.Path.{sym}
use Rattle.std.proofs.Common.{◌∙◌, ap, arith, lit<, lit≤}
use Rattle.std.proofs.Math.Bool.{or-true}
use borrow.Author.Tests.{lt-ltb, ltb-false}
use Rattle.plane.specs.Limits.{max_floor}
use Rattle.plane.specs.Reply.{Reply, answered, refused, Row, NoneApply, First, here, later}
use Rattle.plane.specs.Refusal.{shape_rows, Valid}
use Rattle.plane.specs.Floor.{Floored, corners, Shapes, no_shape, one_shape, two_shapes, many_points}
use Rattle.plane.specs.Floor.{floor_row, rows_of, floor_of, Admitted}
use Rattle.plane.specs.Question.{Question, table, values, reply, output}
use Rattle.plane.proofs.theory.refusals.Rows.{first_row-none, Outcome, given, passed, outcome}
use Rattle.plane.proofs.theory.refusals.Asked.{admitted→none, asked-given, asked-none, asked-rest, shapes-given}
use Rattle.separator.specs.Separator.{Finds, separator_numbers, ask_separator}
use Rattle.polygon.specs.declared.point.Point.{Point}
use Rattle.journal.specs.Adding.{added}
use Rattle.wire.specs.Told.{bits, crossed}
use Rattle.wire.specs.Heard.{number_of, values_of}
use Rattle.wire.specs.theory.ReadBack.{answered-back}
use Rattle.crossing.specs.LowFloor.{low_floor, Numbered}
use Rattle.calls.specs.Calls.{SeparatorTold, added_low}
use Rattle.crossing.specs.theory.High.{barred-shape, barred-shapes, barred-kept, high-reply, pair-reply}

module _ (q : Question) where
  pub shapes-first : {w : Row} → First w (rows_of q.shapes) → reply (low_floor q) ≡ refused w.number w.carries
  unfolding low_floor
  shapes-first f = asked-given (low_floor q) (shapes-given (low_floor q) f)

  pub after-shapes : Admitted q.shapes → max_floor < floor_of q.shapes → reply (low_floor q) ≡ refused 13 []
  after-shapes good h =
      sym (high-reply q (lt-ltb max_floor (floor_of q.shapes) h)) ∙ first_row-none (rows_of q.shapes) _ (admitted→none q.shapes good)

  pub second_above : (a b : Floored) → q.shapes ≡ two_shapes a b → Valid a.list → Valid b.list → max_floor < b.floor
      → reply (low_floor q) ≡ refused 13 []
  second_above a b e v w h =
      let high = ap (λ (t : Bool). ltb max_floor a.floor || t) (lt-ltb max_floor b.floor h) ∙ or-true (ltb max_floor a.floor) in
      sym (pair-reply q e high) ∙ sym (barred-shapes a.list b.list v w)

  pub kept_above : max_floor < floor_of q.shapes → output (low_floor q) ≡ q.lent
  unfolding low_floor
  kept_above h = sym (barred-kept (low_floor q) (rows_of q.shapes) (high-reply q (lt-ltb max_floor (floor_of q.shapes) h)))

  pub answered-low : (v : List ℤ) → reply (low_floor q) ≡ answered v → floor_of q.shapes ≤ max_floor
  unfolding low_floor
  answered-low v h = ltb-false max_floor (floor_of q.shapes) (asked-rest (low_floor q) v h).0

-- ---- 0 tells an answer

first-numbered : {w : Row} {ws : List Row} → First w ws → Numbered ws → 0 < w.number
first-numbered (here e) n = n.0
first-numbered (later e f) n = first-numbered f n.1

numbered-join : (vs ws : List Row) → Numbered vs → Numbered ws → Numbered (vs ++ ws)
numbered-join [] ws n m = m
numbered-join (v ∷ vs) ws n m = (n.0, numbered-join vs ws n.1 m)

five : (s : ℕ) (l : List ℤ) → Numbered (shape_rows s l)
five s l = (lit< tt, (lit< tt, (lit< tt, (lit< tt, (lit< tt, tt)))))

shapes-numbered : (s : Shapes) → Numbered (rows_of s)
shapes-numbered (no_shape f) = tt
shapes-numbered (one_shape a) = five 1 a.list
shapes-numbered (two_shapes a b) =
    let floors = floor_row a.floor b.floor ∷ [] in
    numbered-join (shape_rows 1 a.list) (shape_rows 2 b.list ++ floors) (five 1 a.list)
    (numbered-join (shape_rows 2 b.list) floors (five 2 b.list) (lit< tt, tt))
shapes-numbered (many_points a) = (lit< tt, (lit< tt, (lit< tt, tt)))

zero-none : (q : Question) → Numbered (table q) → number_of (crossed (reply q)) ≡ 0 → NoneApply (table q)
zero-none q rows h = go (outcome (table q))
  where
    go : Outcome (table q) → NoneApply (table q)
    go (given w f) =
        let same : number_of (crossed (reply q)) ≡ w.number = ap (λ (r : Reply). number_of (crossed r)) (asked-given q f) in
        absurd (omega (arith, first-numbered f rows))
    go (passed n) = n

low-none : (q : Question) → Numbered q.rest → number_of (crossed (reply (low_floor q))) ≡ 0 → NoneApply (table (low_floor q))
unfolding low_floor
low-none q rows h =
    zero-none (low_floor q) (numbered-join (rows_of q.shapes) (low_floor q).rest (shapes-numbered q.shapes) (lit< tt, rows)) h

pub answered-zero : (q : Question) → Numbered q.rest → number_of (crossed (reply (low_floor q))) ≡ 0
    → reply (low_floor q) ≡ answered (values q)
unfolding low_floor
answered-zero q rows h = asked-none (low_floor q) (low-none q rows h)

separator-short : (f : ℕ) (s : Option Point) → length (separator_numbers s ++ (pos f ∷ [])) ≤ 9
separator-short f (Some d) = lit≤ tt
separator-short f None = lit≤ tt

pub separator-found : (a b : Floored) (ns : List ℕ) (s : SeparatorTold a b ns) → number_of ns ≡ 0
    → Finds (corners a) (corners b) s.found × (values_of ns ≡ map bits (separator_numbers s.found ++ (pos a.floor ∷ [])))
separator-found a b ns s h =
    let q = ask_separator a b s.found in
    let zero : number_of (crossed (reply (low_floor q))) ≡ 0 = ap number_of (sym s.numbers-are) ∙ h in
    let told = s.numbers-are ∙ ap crossed (answered-zero q tt zero) in
    (s.found-is (low-none q tt zero), ap values_of told ∙ (answered-back (values q) (separator-short a.floor s.found)).2)

-- ---- an addition to a log

module _ (b : List ℕ) (n f : ℕ) (l : List ℤ) (k : ℕ) where
  pub added-same : ltb max_floor f ≡ false → added_low b n f l k ≡ added b n f l k
  unfolding added_low
  added-same low = rw low

  pub added-refused : Valid l → ltb max_floor f ≡ true → ((added_low b n f l k).reply ≡ refused 13 []) × ((added_low b n f l k).log ≡ b)
  unfolding added_low
  added-refused v high = rw high (sym (barred-shape l v), refl)
