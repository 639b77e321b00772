-- Every reply of the four calls on bytes has room in the bytes of its number.
--     judged-fits, relation-fits, made-fits
use Rattle.std.specs.Prelude.{◌≡◌, refl, Bool, cond, ℕ, ◌+◌, ◌≤◌, ◌<◌, ltb, ℤ, length}
use Rattle.std.proofs.Math.Bool.{true, false}
use mathlib.Core.List.{List, [], ◌∷◌, ◌++◌}
use Rattle.std.proofs.Common.{arith, ltb-false, lit<}
use Rattle.std.proofs.Math.IntN.{pos}
use Rattle.plane.specs.Limits.{max_corners, max_floor, floor-small}
use Rattle.plane.specs.Point.{Point, points, numbers}
use Rattle.plane.specs.Reply.{Reply, answered, refused, Row, row, first_row}
use Rattle.plane.specs.Refusal.{bad_count, too_many, some_outside, equal_pair, rule_broken, bad_start, shape_rows}
use Rattle.plane.specs.Refusal.{breaking_edge, breaking_corner, broken_edge, broken_corner}
use Rattle.plane.specs.Separation.{apart, touching, relation_number}
use Rattle.plane.specs.Output.{room_row, answer_rows}
use Rattle.plane.specs.Floor.{Floored, corners, two_shapes, floor_row, pair_rows}
use Rattle.plane.specs.Question.{reply, makes, ask_judge, ask_relation}
use Rattle.plane.proofs.theory.lists.Sought.{first-le}
use Rattle.plane.proofs.theory.refusals.Accept.{few-corners}
use Rattle.crossing.specs.LowFloor.{low_floor}
use Rattle.bytewise.specs.Packing.{Fits}

-- ---- the fields

plain : (n : ℕ) → n < 256 → Fits (refused n [])
plain n h = record { refusal-fits = h; shape-fits = omega arith; first_fits = omega arith; second_fits = omega arith }

blamed : (n which : ℕ) → n < 256 → which < 256 → Fits (refused n (which ∷ []))
blamed n which h k = record { refusal-fits = h; shape-fits = k; first_fits = omega arith; second_fits = omega arith }

answer-fits : (n f : ℕ) → n < 65536 → f < 65536 → Fits (answered (pos n ∷ pos f ∷ []))
answer-fits n f h k = record { refusal-fits = omega arith; shape-fits = omega arith; first_fits = h; second_fits = k }

corners-fit : max_corners < 65535
unfolding max_corners
corners-fit = lit< tt

edge-le : (ps : List Point) → broken_edge ps ≤ length ps
unfolding broken_edge breaking_edge
edge-le ps = go (equal_pair ps) (first-le _ (length ps))
  where
    go : (b : Bool) → {e : ℕ} → e ≤ length ps → cond b 0 e ≤ length ps
    go true h = omega arith
    go false h = h

corner-le : (ps : List Point) → broken_corner ps ≤ 1 + length ps
unfolding broken_corner breaking_corner
corner-le ps = go (equal_pair ps) (first-le _ (length ps))
  where
    go : (b : Bool) → {e : ℕ} → e ≤ length ps → cond b 1 e ≤ 1 + length ps
    go true h = omega arith
    go false h = omega arith

-- ---- the rows

fits-row : (w : Row) (r : Reply) → Fits (refused w.number w.carries) → (w.applies ≡ false → Fits r)
    → Fits (cond w.applies (refused w.number w.carries) r)
fits-row w r h k = go w.applies refl
  where
    go : (b : Bool) → w.applies ≡ b → Fits (cond b (refused w.number w.carries) r)
    go true e = h
    go false e = k e

-- row 4 is asked only of few corners
row-4 : (which : ℕ) → which < 256 → (ps : List Point) → too_many ps ≡ false → (r : Reply) → Fits r
    → Fits (first_row (row 4 (rule_broken ps) (which ∷ broken_edge ps ∷ broken_corner ps ∷ []) ∷ []) r)
row-4 which h ps few r k = fits-row (row 4 (rule_broken ps) (which ∷ broken_edge ps ∷ broken_corner ps ∷ [])) r
    (record {
      refusal-fits = omega arith;
      shape-fits = h;
      first_fits = omega (arith, edge-le ps, few-corners ps few, corners-fit);
      second_fits = omega (arith, corner-le ps, few-corners ps few, corners-fit);
    })
    (λ e. k)

fits-shape : (which : ℕ) → which < 256 → (l : List ℤ) (rest : List Row) (x : Reply) →
    (too_many (points l) ≡ false → Fits (first_row rest x))
    → Fits (first_row (shape_rows which l ++ rest) x)
fits-shape which h l rest x k =
    fits-row (row 1 (bad_count l) (which ∷ [])) _ (blamed 1 which (omega arith) h) (λ e.
    fits-row (row 2 (too_many (points l)) (which ∷ [])) _ (blamed 2 which (omega arith) h) (λ few.
    fits-row (row 3 (some_outside l) (which ∷ [])) _ (blamed 3 which (omega arith) h) (λ e.
    row-4 which h (points l) few _
    (fits-row (row 5 (bad_start (points l)) (which ∷ [])) _ (blamed 5 which (omega arith) h) (λ e. k few)))))

-- 13 for a floor above its limit
fits-floor : (f : ℕ) (rest : List Row) (x : Reply) → (f < 65536 → Fits (first_row rest x))
    → Fits (first_row (row 13 (ltb max_floor f) [] ∷ rest) x)
fits-floor f rest x k = fits-row (row 13 (ltb max_floor f) []) _ (plain 13 (omega arith)) (λ low.
    k (omega (arith, ltb-false max_floor f low, floor-small)))

-- ---- the questions

pub judged-fits : (a : Floored) → Fits (reply (low_floor (ask_judge a)))
unfolding reply low_floor
judged-fits a =
    fits-shape 1 (omega arith) a.list (row 13 (ltb max_floor a.floor) [] ∷ []) _ (λ few.
    fits-floor a.floor [] _ (answer-fits (length (corners a)) a.floor (omega (arith, few-corners (corners a) few, corners-fit))))

module _ (a b : Floored) where
  pair_fits : (rest : List Row) (x : Reply) → (a.floor < 65536 → Fits (first_row rest x))
      → Fits (first_row (pair_rows a b ++ (row 13 (ltb max_floor a.floor) [] ∷ rest)) x)
  pair_fits rest x k =
      let floors = row 13 (ltb max_floor a.floor) [] ∷ rest in
      fits-shape 1 (omega arith) a.list (shape_rows 2 b.list ++ (floor_row a.floor b.floor ∷ floors)) _ (λ few.
      fits-shape 2 (omega arith) b.list (floor_row a.floor b.floor ∷ floors) _ (λ few.
      fits-row (floor_row a.floor b.floor) _ (plain 13 (omega arith)) (λ same. fits-floor a.floor rest x k)))

  pub relation-fits : Fits (reply (low_floor (ask_relation a b)))
  unfolding reply low_floor relation_number
  relation-fits = pair_fits [] _ (go (apart (corners a) (corners b)) (touching (corners a) (corners b)))
    where
      go : (p q : Bool) → a.floor < 65536 → Fits (answered (cond p (pos 0) (cond q (pos 1) (pos 2)) ∷ pos a.floor ∷ []))
      go true q h = answer-fits 0 a.floor (omega arith) h
      go false true h = answer-fits 1 a.floor (omega arith) h
      go false false h = answer-fits 2 a.floor (omega arith) h

  pub made-fits : (shape : List Point) (out : List ℤ) → Fits (reply (low_floor (makes (two_shapes a b) shape out)))
  unfolding reply low_floor
  made-fits shape out = pair_fits (answer_rows shape out) _ (λ h.
      fits-row (row 6 (too_many shape) []) _ (plain 6 (omega arith)) (λ few.
      fits-row (row 7 (some_outside (numbers shape)) []) _ (plain 7 (omega arith)) (λ near.
      fits-row (room_row shape out) _ (plain 8 (omega arith)) (λ room.
      answer-fits (length shape) a.floor (omega (arith, few-corners shape few, corners-fit)) h))))
