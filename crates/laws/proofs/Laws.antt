-- The laws of demand 3 (document 01, "When many shapes come together"; document 02, W11: "Demand 3 speaks of shapes on one floor, with that
-- floor's origin point"). Each is proved in the theory; here it is only cited.
--     ground           what valid, equal and answered say, over which the laws are stated
--     whole lists      the result of sums, and of merges, whatever the order and the grouping
--     two and three    the origin point, a shape merged with itself, a sum over a merge, taking a sum back
-- Every law speaks of calls that are answered, whatever is refused elsewhere, and of any outputs that they are lent; of the origin point,
-- and of a shape with itself, it says that they are answered. Equal shapes are equal in their floors too.
use Rattle.std.specs.Prelude.{◌≡◌, ◌↔◌, ℕ, ◌≤◌, ◌<◌, ℤ, pos, length, get_or}
use mathlib.Core.List.{List, [], ◌∷◌, ◌++◌, Memᴰ}
use Rattle.std.proofs.Common.{not-suc-le-zero, arith, ext_get_or}
use Rattle.plane.specs.Point.{numbers}
use Rattle.plane.specs.Reply.{answered}
use Rattle.plane.specs.Refusal.{Valid}
use Rattle.plane.specs.Corner.{shape_of, sums}
use Rattle.plane.specs.Floor.{Floored, on, corners, two_shapes}
use Rattle.plane.specs.Question.{reply, ask_judge}
use Rattle.plane.proofs.Meaning.{accepted-is-valid, valid-is-accepted}
use Rattle.plane.proofs.theory.lists.Flat.{points-length}
use Rattle.laws.specs.Grouping.{ShapeOn, AllOn, origin_point, Call, sum_call, merge_call, answered_with, Gives, Fits, Called}
use Rattle.laws.specs.Grouping.{Grouping, Result, Refused, sum_of_all, merge_of_all}
use Rattle.laws.proofs.theory.Answer.{made-answered, sum-combines, merge-combines, floored-same}
use Rattle.laws.proofs.theory.Refused.{refused→no-result}
use Rattle.laws.proofs.theory.Fold.{grouping-some, result-floor, result-on}
use Rattle.laws.proofs.theory.Whole.{sums-whole, merges-whole, sums-result, merges-result}
use Rattle.laws.proofs.theory.Pair.{origin-neutral, merge-idem, call-comm, sum-distributes, sum-cancels}
use Rattle.laws.proofs.theory.Acceptance.{pair-accepted, valid-gives}

-- ---- ground

-- "A shape is valid exactly if its list meets all that stands under "What makes a shape"": exactly if judging accepts it
pub valid-exactly-if-judged : (a : Floored)
    → Valid a.list ↔ (reply (ask_judge a) ≡ answered (pos (length (corners a)) ∷ pos a.floor ∷ []))
valid-exactly-if-judged a = (λ v. valid-is-accepted a.list a.floor v, λ h. accepted-is-valid a.list a.floor _ h)

-- "Two shapes are equal if they have as many corners and the same numbers in the same order"; here, on one floor
pub equal-by-count-and-numbers : (a b : Floored) → Valid a.list → Valid b.list → a.floor ≡ b.floor
    → length (corners a) ≡ length (corners b)
    → ((i : ℕ) → i < length a.list → get_or a.list i (pos 0) ≡ get_or b.list i (pos 0)) → a ≡ b
equal-by-count-and-numbers a b v w f n h = floored-same (ext_get_or (pos 0) a.list b.list
    (omega (arith, points-length a.list, points-length b.list, v.paired, w.paired)) h) f

module _ (a b : Floored) (out : List ℤ) where
  -- "of an output, only the numbers that its answer counts are the shape": an answered sum gives the shape of demand 2, its count and its
  -- floor
  pub answered-sum : (v : List ℤ) → (sum_call a b out).reply ≡ answered v
      → (v ≡ pos (length (shape_of (sums (corners a) (corners b)))) ∷ pos a.floor ∷ [])
      × Gives (sum_call a b out) (on (numbers (shape_of (sums (corners a) (corners b)))) a.floor)
  answered-sum v h = made-answered (two_shapes a b) _ out v h

  pub answered-merge : (v : List ℤ) → (merge_call a b out).reply ≡ answered v
      → (v ≡ pos (length (shape_of (corners a ++ corners b))) ∷ pos a.floor ∷ [])
      × Gives (merge_call a b out) (on (numbers (shape_of (corners a ++ corners b))) a.floor)
  answered-merge v h = made-answered (two_shapes a b) _ out v h

  -- "Given exactly when": of valid shapes on one floor, a sum or merge that fits is answered
  pub fitting-sum : (f : ℕ) → ShapeOn f a → ShapeOn f b → Fits (shape_of (sums (corners a) (corners b))) out
      → (sum_call a b out).reply ≡ answered (pos (length (shape_of (sums (corners a) (corners b)))) ∷ pos f ∷ [])
  fitting-sum f v w fits = pair-accepted f a b _ out v w fits

  pub fitting-merge : (f : ℕ) → ShapeOn f a → ShapeOn f b → Fits (shape_of (corners a ++ corners b)) out
      → (merge_call a b out).reply ≡ answered (pos (length (shape_of (corners a ++ corners b))) ∷ pos f ∷ [])
  fitting-merge f v w fits = pair-accepted f a b _ out v w fits

-- ---- whole lists

-- "split into two groups, neither empty"
pub group-not-empty : Grouping [] → ⊥
group-not-empty g = not-suc-le-zero (grouping-some g)

-- "A grouping in which some call is refused has no result"
pub refused-has-no-result : (call : Call) (L : List Floored) (g : Grouping L) (s : Floored) → Refused call g → Result call g s → ⊥
refused-has-no-result call L g s f r = refused→no-result call g s f r

-- "Any question on two shapes of different floors is refused 13": shapes that have a result are on one floor, and so is the result
module _ (L : List Floored) (g : Grouping L) (s a : Floored) (m : Memᴰ a L) where
  pub sums-on-one-floor : Result sum_call g s → a.floor ≡ s.floor
  sums-on-one-floor r = result-floor sum-combines g s r a m

  pub merges-on-one-floor : Result merge_call g s → a.floor ≡ s.floor
  merges-on-one-floor r = result-floor merge-combines g s r a m

module _ (f : ℕ) (L : List Floored) (shapes : AllOn f L) (g : Grouping L) where
  -- "The result of sums is the shape of all points that add up one corner of each shape in the list"
  pub sums-any-order : (s : Floored) → Result sum_call g s → s ≡ sum_of_all f L
  sums-any-order s r = sums-whole f L shapes g s r

  -- "Every other has the result below, whatever is refused in another grouping"
  pub sums-have-result : (Refused sum_call g → ⊥) → Result sum_call g (sum_of_all f L)
  sums-have-result n = sums-result f L shapes g n

  -- it is a shape again, which every question accepts, on the same floor
  pub sums-valid : (s : Floored) → Result sum_call g s → ShapeOn f s
  sums-valid s r = result-on sum-combines shapes g s r

  -- "The result of merges is the shape of the corners of all shapes in the list"
  pub merges-any-order : (s : Floored) → Result merge_call g s → s ≡ merge_of_all f L
  merges-any-order s r = merges-whole f L shapes g s r

  pub merges-have-result : (Refused merge_call g → ⊥) → Result merge_call g (merge_of_all f L)
  merges-have-result n = merges-result f L shapes g n

  pub merges-valid : (s : Floored) → Result merge_call g s → ShapeOn f s
  merges-valid s r = result-on merge-combines shapes g s r

-- ---- two and three

module _ (a b s t : Floored) where
  -- "The shapes of a sum may stand in either order"
  pub sum-either-order : Called sum_call a b s → Called sum_call b a t → s ≡ t
  sum-either-order p q = call-comm sum-combines p q

  -- so may those of a merge
  pub merge-either-order : Called merge_call a b s → Called merge_call b a t → s ≡ t
  merge-either-order p q = call-comm merge-combines p q

module _ (a : Floored) (out : List ℤ) (v : Valid a.list) (room : length a.list ≤ length out) where
  -- the origin point of its floor added to a shape, or a shape to it, is answered, and gives the shape: "without them the laws of demand 3
  -- have no neutral shape"
  pub sum-origin : (sum_call (origin_point a.floor) a out ≡ answered_with a out)
      × (sum_call a (origin_point a.floor) out ≡ answered_with a out)
  sum-origin = origin-neutral a out v room

  -- a shape merged with itself is answered, and gives the shape
  pub merge-self : merge_call a a out ≡ answered_with a out
  merge-self = merge-idem a out v room

  -- "of an output, only the numbers that its answer counts are the shape": what is answered with a gives a
  pub answered-with-gives : Gives (answered_with a out) a
  answered-with-gives = valid-gives a out v

-- a plus (b merged with c) is (a plus b) merged with (a plus c), each call in either order
pub sum-over-merge : (a b c bc ab ac s t : Floored) → Called merge_call b c bc → Called sum_call a bc s
    → Called sum_call a b ab → Called sum_call a c ac → Called merge_call ab ac t → s ≡ t
sum-over-merge a b c bc ab ac s t u w p q m = sum-distributes u w p q m

-- if a plus c is b plus c, then a is b, each sum in either order
pub sum-cancel : (a b c s : Floored) → Called sum_call a c s → Called sum_call b c s → a ≡ b
sum-cancel a b c s p q = sum-cancels p q
