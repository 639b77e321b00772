-- Laws of one, two and three shapes: each is a line of arithmetic on how far the shapes reach.
--     origin-neutral     adding the origin point to a valid shape, in either order, is answered with the shape
--     merge-idem         so is merging a shape with itself
--     call-comm          the order of the two shapes and the outputs make no difference
--     sum-distributes    a sum over a merge is the merge of the sums
--     sum-cancels        equal sums with c come of equal shapes
use Rattle.std.specs.Prelude.{◌≡◌, refl, List, [], ◌∷◌, ◌++◌, ◌≤◌, ◌<◌, ℤ, ◌+ℤ◌, length}
use Rattle.std.proofs.Common.{sym, ◌∙◌, ap, arith, length-append}
use Rattle.std.proofs.Math.IntN.{+ℤ_idl, +ℤ_idr}
use Rattle.integer.specs.Linear.{lia, linear}
use Rattle.plane.specs.Point.{Point}
use Rattle.plane.specs.Refusal.{Valid}
use Rattle.plane.specs.Direction.{support}
use Rattle.plane.specs.Corner.{shape_of, sums}
use Rattle.plane.specs.Floor.{Floored, corners, two_shapes, Same}
use Rattle.plane.specs.Question.{written, makes}
use Rattle.plane.proofs.theory.lists.Greater.{greater-idem, plus-greater}
use Rattle.plane.proofs.theory.lists.Members.{sums-some}
use Rattle.plane.proofs.theory.support.Support.{support-append, support-sums}
use Rattle.plane.proofs.theory.hull.ShapeOf.{shape-known}
use Rattle.laws.specs.Grouping.{origin_point, Call, sum_call, merge_call, answered_with, Called}
use Rattle.laws.proofs.theory.Answer.{Combines, sum-combines, merge-combines, called-reaches, valid_same}
use Rattle.laws.proofs.theory.Acceptance.{made-whole, origin-valid}
use Rattle.laws.proofs.theory.Fold.{reach}
use Rattle.laws.proofs.theory.Whole.{support-origin}

-- ---- one shape, and an output with room for it

module _ (a : Floored) (out : List ℤ) (v : Valid a.list) (room : length a.list ≤ length out) where
  -- the origin point of the shape's own floor
  abbrev zero : Floored
  zero = origin_point a.floor

  -- a set of points that reaches as far as a has the shape a
  reached : (b c : Floored) (S : List Point) → Same b c → a.floor ≡ b.floor → 0 < length S → ((d : Point) → support d S ≡ reach d a)
      → written (makes (two_shapes b c) (shape_of S) out) ≡ answered_with a out
  reached b c S one floors some same =
      made-whole (two_shapes b c) (shape_of S) out one a v floors (shape-known (corners a) S v.shape some (λ d. sym (same d))) room

  pub origin-neutral : (sum_call zero a out ≡ answered_with a out) × (sum_call a zero out ≡ answered_with a out)
  origin-neutral = let A = corners a in let Z = corners zero in (
    reached zero a (sums Z A) (record { first-valid = origin-valid; second-valid = v; one-floor = refl }) refl
        (sums-some Z A (omega arith) v.shape.some) (λ d. support-sums d Z A (omega arith) v.shape.some
        ∙ ap (λ x. x +ℤ reach d a) (support-origin d) ∙ +ℤ_idl (reach d a)),
    reached a zero (sums A Z) (record { first-valid = v; second-valid = origin-valid; one-floor = refl }) refl
        (sums-some A Z v.shape.some (omega arith)) (λ d. support-sums d A Z v.shape.some (omega arith)
        ∙ ap (λ x. reach d a +ℤ x) (support-origin d) ∙ +ℤ_idr (reach d a)),
  )

  pub merge-idem : merge_call a a out ≡ answered_with a out
  merge-idem = reached a a (corners a ++ corners a) (record { first-valid = v; second-valid = v; one-floor = refl }) refl
      (omega (arith, length-append (corners a) (corners a), v.shape.some))
      (λ d. support-append d (corners a) (corners a) v.shape.some v.shape.some ∙ greater-idem (reach d a))

-- ---- two shapes and three

pub call-comm : {call : Call} {c : ℤ → ℤ → ℤ} → Combines call c → {a b l m : Floored} → Called call a b l → Called call b a m → l ≡ m
call-comm k s t =
    let r = called-reaches k s in
    let q = called-reaches k t in
    let floors = r.on-floor ∙ r.same.one-floor ∙ sym q.on-floor in
    valid_same r.valid q.valid floors (λ d. r.reach d ∙ k.comm _ _ ∙ sym (q.reach d))

pub sum-distributes : {a b c bc l ab ac m : Floored} → Called merge_call b c bc → Called sum_call a bc l
    → Called sum_call a b ab → Called sum_call a c ac → Called merge_call ab ac m → l ≡ m
sum-distributes {a} {b} {c} u s p q t =
    let merged = called-reaches merge-combines u in
    let whole = called-reaches sum-combines s in
    let one = called-reaches sum-combines p in
    let other = called-reaches sum-combines q in
    let parts = called-reaches merge-combines t in
    let floors = whole.on-floor ∙ sym one.on-floor ∙ sym parts.on-floor in
    valid_same whole.valid parts.valid floors (λ d. whole.reach d
    ∙ rw (merged.reach d, parts.reach d, one.reach d, other.reach d) (plus-greater (reach d a) (reach d b) (reach d c)))

plus-injective : (x y z : ℤ) → x +ℤ z ≡ y +ℤ z → x ≡ y
plus-injective x y z h = lia (x ∷ y ∷ z ∷ []) h (search linear depth 40) (omega arith)

pub sum-cancels : {a b c l : Floored} → Called sum_call a c l → Called sum_call b c l → a ≡ b
sum-cancels {a} {b} {c} s t =
    let r = called-reaches sum-combines s in
    let q = called-reaches sum-combines t in
    valid_same r.same.first-valid q.same.first-valid (sym r.on-floor ∙ q.on-floor)
    (λ d. plus-injective (reach d a) (reach d b) (reach d c) (sym (r.reach d) ∙ q.reach d))
