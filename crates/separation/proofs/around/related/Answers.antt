-- `related` meets its contract: what the pass saw decides, but for a point or a segment.
use mathlib.Core.Path.{◌≡◌, refl, sym, ◌∙◌, ap, subst}
use mathlib.Core.Bool.{true, false}
use mathlib.Core.List.{List}
use Prim.Native.Nat.{ℕ}
use borrow.Author.Tests.{lt-ltb, le-ltb}
use lib.Dec.{ltb}
use lib.IntN.{ℤ}
use lib.ListN.{length}
use Rattle.plane.specs.Point.{Point, points}
use Rattle.plane.specs.Separation.{relation_number}
use Rattle.plane.specs.VectorSum.{vector_sum}
use Rattle.calipers.specs.Image.{image}
use Rattle.separation.specs.declared.around.Seen.TheVariants.{Round}
use Rattle.separation.specs.Around.{origin_in, Saw}
use Rattle.separation.specs.theory.Image.{image-related}
use Rattle.separation.proofs.around.related.Goals as goal
use Rattle.separation.proofs.around.related.Goals.{Else-count-lt3, In-Round, Start, Then-count-lt3}

-- what a pass saw, as the number of the relation
abbrev D : Start → List Point
D c = vector_sum (points c.args.a.now) (points (image c.args.b.now))

told : (c : Start) {z : ℤ} → z ≡ origin_in (D c) → z ≡ relation_number (points c.args.a.now) (points c.args.b.now)
told c e = e ∙ image-related _ _ c.requires.0 c.requires.1

-- ---- what is known of a walk all round, and where a test fails or passes
saw : (c : In-Round) → Saw (D c.before) (Round c.in-Round.count c.in-Round.rim)
saw c = subst (Saw (D c.before)) c.in-Round.is c.requires.3

few : (c : Then-count-lt3) → ltb (length (D c.before.before)) 3 ≡ true
few c = ap (λ (n : ℕ). ltb n 3) (sym (saw c.before).1) ∙ lt-ltb _ 3 c.if-count-lt3.true

many : (c : Else-count-lt3) → ltb (length (D c.before.before)) 3 ≡ false
many c = ap (λ (n : ℕ). ltb n 3) (sym (saw c.before).1) ∙ le-ltb _ 3 c.if-count-lt3.false

-- ---- the needs
pub returns-in_default : goal.returns-in_default
unfolding origin_in
returns-in_default c = told c.before (rw (subst (Saw (D c.before)) c.in_default.is c.requires.3).0 refl)

pub returns-then-is_on : goal.returns-then-is_on
unfolding origin_in
returns-then-is_on c =
    told c.before.before.before.before
    (rw ((saw c.before.before.before).0, few c.before.before, sym c.is_on.ensures ∙ c.if-is_on.true) refl)

pub returns-else-is_on : goal.returns-else-is_on
unfolding origin_in
returns-else-is_on c =
    told c.before.before.before.before
    (rw ((saw c.before.before.before).0, few c.before.before, sym c.is_on.ensures ∙ c.if-is_on.false) refl)

pub returns-then-rim : goal.returns-then-rim
unfolding origin_in
returns-then-rim c =
    told c.before.before.before (rw (
      (saw c.before.before).0,
      many c.before,
      sym (saw c.before.before).2 ∙ c.if-rim.true,
    ) refl)

pub returns : goal.returns
unfolding origin_in
returns c =
    told c.before.before.before (rw (
      (saw c.before.before).0,
      many c.before,
      sym (saw c.before.before).2 ∙ c.if-rim.false,
    ) refl)
