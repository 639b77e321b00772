-- What an answered question says of the shape that it makes: first of the table, the floor and the output, then of how far it reaches.
--     floored-same                     shapes with the same numbers and the same floor are equal
--     gives-unique                     an answered call gives one shape
--     made-answered                    of whatever is lent, what is answered is the shape that is made, its count and its floor
--     Made s shape t, made             what is lent is good, the shape keeps the limits, and t is the shape: so if t is given
--     made-corners                     the corners of t are those of the shape
--     Reaches far a b s                all three are valid and on one floor; in every direction s reaches so far
--     made-reaches                     what is made of a and b reaches as far as the set whose shape it is
--     both c a b                       as far as c of what a and b reach
--     Combines call c                  c is an operation that every answer of the call follows
--     sum-combines, merge-combines     a sum adds, a merge takes the greater
--     called-reaches                   also where the two shapes are in the other order
--     valid_same                       valid shapes on one floor that reach as far in every direction are equal
use Rattle.std.specs.Prelude.{◌≡◌, List, [], ◌∷◌, ◌++◌, ◌*◌, ◌≤◌, ◌<◌, ℤ, pos, ◌+ℤ◌, take}
use Rattle.std.proofs.Math.Path.{sym}
use Rattle.std.proofs.Common.{◌∙◌, ap, subst, arith, length-append}
use Rattle.std.proofs.Math.IntN.{+ℤ_comm, +ℤ_assoc, +ℤ_idr}
use Rattle.std.proofs.Math.ListN.{length}
use Rattle.std.proofs.Math.Seq.{take_at}
use Rattle.integer.specs.Order.{le_of_eq, le_trans, le_antisym}
use Rattle.plane.specs.Limits.{max_corners}
use Rattle.plane.specs.Point.{Point, numbers}
use Rattle.plane.specs.Shape.{IsShape}
use Rattle.plane.specs.Reply.{answered}
use Rattle.plane.specs.Refusal.{Valid, InRange}
use Rattle.plane.specs.Direction.{support, greater}
use Rattle.plane.specs.Corner.{shape_of, sums}
use Rattle.plane.specs.Output.{Written, overwritten}
use Rattle.plane.specs.Floor.{Floored, on, corners, Shapes, two_shapes, floor_of, Same, Admitted}
use Rattle.plane.specs.Question.{reply, written, makes}
use Rattle.plane.proofs.theory.refusals.Asked.{asked-none, asked-answered, asked-values, asked-wrote, asked-shapes, asked-rest}
use Rattle.plane.proofs.theory.refusals.Accept.{few-corners, near→in_range}
use Rattle.plane.proofs.theory.lists.Flat.{points-numbers, numbers-points, numbers-length}
use Rattle.plane.proofs.theory.lists.Members.{sums-some}
use Rattle.plane.proofs.theory.lists.Greater.{left-le-greater, greater-comm, greater-assoc, greater-idem}
use Rattle.plane.proofs.theory.support.Support.{support-append, support-sums}
use Rattle.plane.proofs.theory.hull.ShapeOf.{shape_of-support, shape_of-shape, shape-extensional}
use Rattle.laws.specs.Grouping.{Call, sum_call, merge_call, Gives, Called, as-named, swapped}

-- ---- an answered call

pub floored-same : {s t : Floored} → s.list ≡ t.list → s.floor ≡ t.floor → s ≡ t
floored-same l f = λ i. record { list = l i; floor = f i }

pub gives-unique : {w : Written} {s t : Floored} → Gives w s → Gives w t → s ≡ t
gives-unique g h = floored-same (cc) (cc)

pub record Made (s : Shapes) (shape : List Point) (t : Floored) : Type 0 where
  pub good : Admitted s
  pub few : length shape ≤ max_corners
  pub in_range : InRange (numbers shape)
  pub gives : t ≡ on (numbers shape) (floor_of s)

module _ (s : Shapes) (shape : List Point) (out : List ℤ) where
  pub made-answered : (v : List ℤ) → reply (makes s shape out) ≡ answered v
      → (v ≡ pos (length shape) ∷ pos (floor_of s) ∷ []) × Gives (written (makes s shape out)) (on (numbers shape) (floor_of s))
  unfolding overwritten
  made-answered v h =
      let q = makes s shape out in
      let n = 2 * length shape in (
        asked-values q v h,
        record {
          count = length shape;
          answer = asked-none q (asked-answered q v h);
          counted = sym (ap (take n) (asked-wrote q v h) ∙ take_at (numbers shape) _ n (numbers-length shape));
        },
      )

  pub made : {t : Floored} → Gives (written (makes s shape out)) t → Made s shape t
  made g =
      let q = makes s shape out in
      let size = asked-rest q _ g.answer in
      record {
        good = asked-shapes q _ g.answer;
        few = few-corners shape size.0;
        in_range = near→in_range (numbers shape) size.1.0;
        gives = gives-unique g (made-answered _ g.answer).1;
      }

pub made-corners : {s : Shapes} {shape : List Point} {t : Floored} → Made s shape t → corners t ≡ shape
made-corners {shape = shape} m = ap corners m.gives ∙ points-numbers shape

made-valid : {s : Shapes} {shape : List Point} {t : Floored} → IsShape shape → Made s shape t → Valid t.list
made-valid {shape = shape} i m = subst (λ (t : Floored). Valid t.list) (sym m.gives) (record {
  paired = omega (arith, numbers-length shape);
  few = rw points-numbers m.few;
  in_range = m.in_range;
  shape = rw points-numbers i;
})

-- ---- how far the answer reaches

pub record Reaches (far : Point → ℤ) (a b s : Floored) : Type 0 where
  pub same : Same a b
  pub valid : Valid s.list
  pub on-floor : s.floor ≡ a.floor
  pub reach : (d : Point) → support d (corners s) ≡ far d

module _ (far : Point → ℤ) (a b : Floored) (S : List Point) (out : List ℤ) (s : Floored)
    (some : 0 < length (corners a) → 0 < length (corners b) → 0 < length S)
    (follows : 0 < length (corners a) → 0 < length (corners b) → (d : Point) → support d S ≡ far d) where
  pub made-reaches : Gives (written (makes (two_shapes a b) (shape_of S) out)) s → Reaches far a b s
  made-reaches g =
      let m = made (two_shapes a b) (shape_of S) out g in
      let v = m.good.first-valid.shape.some in
      let w = m.good.second-valid.shape.some in
      record {
        same = m.good;
        valid = made-valid (shape_of-shape S (some v w)) m;
        on-floor = ap (λ (t : Floored). t.floor) m.gives;
        reach = λ d. ap (support d) (made-corners m) ∙ shape_of-support S (some v w) d ∙ follows v w d;
      }

-- ---- sum and merge

abbrev pub both : (ℤ → ℤ → ℤ) → Floored → Floored → Point → ℤ
both c a b d = c (support d (corners a)) (support d (corners b))

pub record Combines (call : Call) (c : ℤ → ℤ → ℤ) : Type 0 where
  pub comm : (x y : ℤ) → c x y ≡ c y x
  pub assoc : (x y z : ℤ) → c (c x y) z ≡ c x (c y z)
  pub cancel : (x y : ℤ) → ((z : ℤ) → c x z ≡ c y z) → x ≡ y
  pub gives→reaches : (a b : Floored) (out : List ℤ) (s : Floored) → Gives (call a b out) s → Reaches (both c a b) a b s

plus-cancel : (x y : ℤ) → ((z : ℤ) → x +ℤ z ≡ y +ℤ z) → x ≡ y
plus-cancel x y h = sym (+ℤ_idr x) ∙ h (pos 0) ∙ +ℤ_idr y

-- with z the one, the other is at most it
greater-cancel : (x y : ℤ) → ((z : ℤ) → greater x z ≡ greater y z) → x ≡ y
greater-cancel x y h = le_antisym
    (le_trans (left-le-greater x y) (le_of_eq (h y ∙ greater-idem y)))
    (le_trans (left-le-greater y x) (le_of_eq (sym (h x) ∙ greater-idem x)))

pub sum-combines : Combines sum_call ◌+ℤ◌
sum-combines = record {
  comm = +ℤ_comm;
  assoc = +ℤ_assoc;
  cancel = plus-cancel;
  gives→reaches = λ a b out s. made-reaches (both ◌+ℤ◌ a b) a b (sums (corners a) (corners b)) out s
      (sums-some (corners a) (corners b)) (λ m n d. support-sums d (corners a) (corners b) m n);
}

pub merge-combines : Combines merge_call greater
merge-combines = record {
  comm = greater-comm;
  assoc = greater-assoc;
  cancel = greater-cancel;
  gives→reaches = λ a b out s. made-reaches (both greater a b) a b (corners a ++ corners b) out s
      (λ m n. omega (arith, length-append (corners a) (corners b))) (λ m n d. support-append d (corners a) (corners b) m n);
}

pub called-reaches : {call : Call} {c : ℤ → ℤ → ℤ} → Combines call c → {a b s : Floored} → Called call a b s
    → Reaches (both c a b) a b s
called-reaches k {a} {b} {s} (as-named out g) = k.gives→reaches a b out s g
called-reaches k {a} {b} {s} (swapped out g) =
    let r = k.gives→reaches b a out s g in
    let one = r.same in
    record {
      same = record { first-valid = one.second-valid; second-valid = one.first-valid; one-floor = sym one.one-floor };
      valid = r.valid;
      on-floor = r.on-floor ∙ one.one-floor;
      reach = λ d. r.reach d ∙ k.comm _ _;
    }

pub valid_same : {s t : Floored} → Valid s.list → Valid t.list → s.floor ≡ t.floor
    → ((d : Point) → support d (corners s) ≡ support d (corners t)) → s ≡ t
valid_same {s} {t} v w f same = floored-same
    (sym (numbers-points s.list v.paired) ∙ ap numbers (shape-extensional (corners s) (corners t) v.shape w.shape same)
    ∙ numbers-points t.list w.paired) f
