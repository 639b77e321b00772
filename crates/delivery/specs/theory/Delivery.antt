-- A shape's size, and its numbers, written to an output.
--     sized_rows_lem, judged-by     what its size says of rows 6 and 7, and that it is judged by these; `fit-judged`: by 8 too
--     room-there          where no row applies, there is room
--     numbers-outside     row 7 is asked of the numbers as they are
--     copied              a copy of the list is the shape's numbers, and all after them is kept
--     made-delivered      what is delivered of the front of a buffer, where the shape that a question makes is; `front-paired`: its numbers
--     sweep-delivered     the same of the shape of a sweep
use Rattle.std.specs.Prelude.{◌≡◌, Bool, true, List, [], ◌∷◌, ◌++◌, ℕ, ◌%◌, ◌*◌, ◌+◌, ◌≤◌, ◌<◌, ltb, ℤ, take, Result}
use Rattle.std.proofs.Math.Path.{sym, ap, ap₂}
use Rattle.std.proofs.Common.{◌∙◌, subst, true≢false}
use native.Mathlib.Omega.{arith}
use borrow.Author.Tests.{ltb-false, lt-ltb, le-ltb}
use Rattle.std.proofs.Math.ListN.{length, drop}
use Rattle.std.proofs.Math.Seq.{paste, take-length}
use Rattle.plane.specs.Point.{Point, points, numbers}
use Rattle.plane.specs.Limits.{max_corners}
use Rattle.plane.specs.Reply.{Reply, answered, Row, row, NoneApply, here}
use Rattle.plane.specs.Refusal.{too_many, some_outside}
use Rattle.plane.specs.Corner.{shape_of}
use Rattle.plane.specs.Output.{no_room, size_rows, room_row, answer_rows, overwritten}
use Rattle.plane.specs.Sweep.{ValidPoints}
use Rattle.plane.specs.Floor.{Floored, corners, Shapes, no_shape, many_points, rows_of, floor_of, Admitted}
use Rattle.plane.specs.Question.{reply, output, makes, ask_sweep}
use Rattle.plane.proofs.theory.lists.Flat.{numbers-points, numbers-length}
use Rattle.plane.proofs.theory.refusals.Rows.{row-given, first_row-given, first_row-passed, passed-output}
use Rattle.plane.proofs.theory.refusals.Asked.{admitted→none}
use Rattle.plane.proofs.theory.sweep.SweepSize.{sweep-size}
use Rattle.polygon.specs.Front.{Front}
use Rattle.polygon.specs.theory.Fronts.{front-points, front_length}
use Rattle.sums.specs.Size.{Reckoned, exact, enough, many}
use Rattle.admission.specs.declared.answer.Refusal.{Refusal}
use Rattle.admission.specs.Admission.{Refuses, Judged}
use Rattle.delivery.specs.Fit.{sized_rows, fit_rows}

-- ---- the size of a shape

-- what is judged by one table is judged by an equal one
pub judged-by : {vs ws : List Row} → vs ≡ ws → {x : Result Unit Refusal} → Judged (NoneApply vs) vs x → Judged (NoneApply ws) ws x
judged-by e {x} j = subst (λ (rows : List Row). Judged (NoneApply rows) rows x) e j

module _ (S : List Point) where
  many_is : {n room : ℕ} → Reckoned (length S) room n → ltb max_corners n ≡ too_many S
  unfolding too_many
  many_is (exact e) = ap (ltb max_corners) e
  many_is (enough h k l) = le-ltb max_corners _ k ∙ sym (le-ltb max_corners (length S) (omega arith))
  many_is (many h k) = lt-ltb max_corners _ k ∙ sym (lt-ltb max_corners (length S) h)

  module _ {far : Bool} (f : far ≡ some_outside (numbers S)) where
    pub sized_rows_lem : {n room : ℕ} → Reckoned (length S) room n → sized_rows n far ≡ size_rows S
    sized_rows_lem r = ap₂ (λ (s t : Bool). row 6 s [] ∷ row 7 t [] ∷ []) (many_is r) f

    module _ (old : List ℤ) {n : ℕ} where
      fit-rows : Reckoned (length S) (length old) n → ltb (length old) (2 * n) ≡ no_room S old
          → fit_rows n far (length old) ≡ answer_rows S old
      fit-rows r e = ap₂ (λ (v : List Row) (t : Bool). v ++ (row 8 t [] ∷ [])) (sized_rows_lem r) e

      -- more corners than a shape may have: 6, whatever the room
      large : max_corners < n → too_many S ≡ true → {r : Reply} → Refuses (fit_rows n far (length old)) r → Refuses (answer_rows S old) r
      large h t {r} g = record {
        by = row 6 (too_many S) [];
        first = here t;
        is = g.is ∙ sym (first_row-given (answered []) g.first)
            ∙ sym (row-given (row 6 (ltb max_corners n) []) (row 7 far [] ∷ row 8 (ltb (length old) (2 * n)) [] ∷ []) (answered [])
            (lt-ltb max_corners n h));
      }

      -- the shape is judged by its size
      pub fit-judged : Reckoned (length S) (length old) n → {x : Result Unit Refusal}
          → Judged (NoneApply (fit_rows n far (length old))) (fit_rows n far (length old)) x
          → Judged (NoneApply (answer_rows S old)) (answer_rows S old) x
      unfolding no_room too_many
      fit-judged (exact e) j = judged-by (fit-rows (exact e) (ap (ltb (length old)) (ap (λ k. 2 * k) e ∙ sym (numbers-length S)))) j
      fit-judged (enough h k l) j = judged-by (fit-rows (enough h k l)
          (le-ltb (length old) _ l ∙ sym (le-ltb (length old) (length (numbers S)) (omega (arith, numbers-length S))))) j
      fit-judged (many h k) j = record {
        valid = λ e. absurd (true≢false (sym (lt-ltb max_corners n k) ∙ (j.valid e).0));
        no = λ r e. large k (lt-ltb max_corners (length S) h) (j.no r e);
      }

  -- no row applies: there is room
  pub room-there : (old : List ℤ) → NoneApply (answer_rows S old) → 2 * length S ≤ length old
  unfolding no_room
  room-there old n = omega (arith, ltb-false (length old) (length (numbers S)) n.1.1.0, numbers-length S)

-- ---- a list that is a shape

module _ (l : List ℤ) (paired : length l % 2 ≡ 0) where
  pub numbers-outside : some_outside l ≡ some_outside (numbers (points l))
  numbers-outside = ap some_outside (sym (numbers-points l paired))

  pub copied : (old : List ℤ) {out : List ℤ} → out ≡ paste old 0 l (length l) → out ≡ overwritten (numbers (points l)) old
  unfolding overwritten
  copied old f =
      let zero : 0 + length l ≡ length l = omega arith in
      f ∙ ap₂ (λ k n. k ++ drop n old) (take-length l) zero ∙ ap (λ k. k ++ drop (length k) old) (sym (numbers-points l paired))

-- ---- a shape at the front of a buffer

module _ {ps : List Point} {n : ℕ} {l : List ℤ} (f : Front ps n l) where
  pub front-paired : length (take (2 * n) l) % 2 ≡ 0
  front-paired = omega (arith, front_length f)

  -- it is delivered with the floor of the shapes it is made of
  pub made-delivered : (s : Shapes) → Admitted s → (old : List ℤ) {r : Reply} {out : List ℤ}
      → r ≡ reply (makes (no_shape (floor_of s)) (points (take (2 * n) l)) old)
      → out ≡ output (makes (no_shape (floor_of s)) (points (take (2 * n) l)) old)
      → (r ≡ reply (makes s ps old)) × (out ≡ output (makes s ps old))
  unfolding reply output
  made-delivered s good old h k = (
    h ∙ ap (λ qs. reply (makes (no_shape (floor_of s)) qs old)) (front-points f)
        ∙ sym (first_row-passed (rows_of s) (answer_rows ps old) _ (admitted→none s good)),
    k ∙ ap (λ qs. output (makes (no_shape (floor_of s)) qs old)) (front-points f)
        ∙ sym (passed-output (rows_of s) (answer_rows ps old) old _ (admitted→none s good)),
  )

-- 6 and 7 cannot come of a sweep, so it is delivered as any answer is
pub sweep-delivered : (a : Floored) {n : ℕ} {l : List ℤ} → Front (shape_of (corners a)) n l → ValidPoints a.list → (old : List ℤ)
    {r : Reply} {out : List ℤ} → r ≡ reply (makes (no_shape a.floor) (points (take (2 * n) l)) old)
    → out ≡ output (makes (no_shape a.floor) (points (take (2 * n) l)) old)
    → (r ≡ reply (ask_sweep a old)) × (out ≡ output (ask_sweep a old))
unfolding reply output
sweep-delivered a f v old h k =
    let made = made-delivered f (no_shape a.floor) tt old h k in
    let shape = shape_of (corners a) in
    let none = admitted→none (many_points a) v in (
      made.0 ∙ first_row-passed (size_rows shape) (room_row shape old ∷ []) _ (sweep-size a.list v)
          ∙ sym (first_row-passed (rows_of (many_points a)) (room_row shape old ∷ []) _ none),
      made.1 ∙ passed-output (size_rows shape) (room_row shape old ∷ []) old _ (sweep-size a.list v)
          ∙ sym (passed-output (rows_of (many_points a)) (room_row shape old ∷ []) old _ none),
    )
