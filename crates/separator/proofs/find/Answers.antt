-- `find` meets its contract: what the walk saw decides, but for a point or a segment.
use mathlib.Core.Path.{◌≡◌, sym, ◌∙◌, ap, subst}
use mathlib.Core.List.{List}
use Rattle.plane.specs.Primitive.{primitive}
use mathlib.Core.Bool.{Bool, false, true≢false}
use Prim.Native.Nat.{ℕ, ◌≤◌, ◌<◌, ◌^◌}
use native.Mathlib.Omega.{arith}
use borrow.Author.Tests.{lt-ltb}
use lib.IntN.{ℤ}
use lib.ListN.{length}
use Rattle.plane.specs.Point.{Point, points, corner, opposite}
use Rattle.plane.specs.Refusal.{Valid}
use Rattle.plane.specs.Forms.{NonZero}
use Rattle.plane.specs.VectorSum.{vector_sum}
use Rattle.plane.proofs.theory.direction.Rows.{direction-some}
use Rattle.polygon.specs.Point.{at, Small}
use Rattle.polygon.specs.theory.Small.{small-wide}
use Rattle.calipers.specs.Image.{image}
use Rattle.separation.specs.declared.around.Seen.TheVariants.{Round}
use Rattle.separation.specs.Outward.{Outward}
use Rattle.separation.specs.Around.{origin_on, Saw}
use Rattle.separation.specs.theory.Outward.{begun-away}
use Rattle.separation.specs.theory.Image.{image-begun}
use Rattle.separator.specs.Separator.{Separates}
use Rattle.separator.specs.theory.Direction.{good-small}
use Rattle.separator.specs.theory.Exists.{outside-few, not-apart-on, not-apart-many, away-good, away-witness}
use Rattle.separator.proofs.find.Goals as goal
use Rattle.separator.proofs.find.Goals.{After-opposite, In-Outside, In-Round, then-count-gt2, else-count-gt2}

module _ (a b : List ℤ) (u : Valid a) (v : Valid b) where
  -- the corners that the walk visits
  abbrev D : List Point
  D = vector_sum (points a) (points (image b))

  -- a direction that leads away from them
  module _ {d : Point} (w : Outward D d) where
    fit : Small (2 ^ 22) d × NonZero d
    fit = let good = away-good a b u v d w in (small-wide (good-small _ good), direction-some _ good)

    found : {e : Point} → e ≡ primitive d → Separates (points a) (points b) e
    found h = subst (Separates _ _) (sym h) (away-witness a b u v d w)

  -- no edge has the origin to its right: the opposite of the first corner leads away from a point or a segment that it is not on
  opposed : {count : ℕ} {rim : Bool} → Saw D (Round count rim) → count ≤ 2 → origin_on D ≡ false → {p d : Point} → p ≡ corner D 0
      → d ≡ opposite p → Outward D d
  opposed (none, all, _) few off p d =
      let short : length D < 3 = omega (arith, all, few) in
      subst (Outward D) (sym (d ∙ ap opposite p)) (begun-away a (image b) (image-begun a b u v) none (outside-few D none short off))

away : (c : In-Outside) →
    Outward (vector_sum (points c.args.a.now) (points (image c.args.b.now))) (at c.in-Outside.normal)
away c = (subst (Saw _) c.in-Outside.is c.pass.ensures.passed).1

saw : (c : In-Round) →
    Saw (vector_sum (points c.args.a.now) (points (image c.args.b.now))) (Round c.in-Round.count c.in-Round.rim)
saw c = subst (Saw _) c.in-Round.is c.pass.ensures.passed

leads : (c : After-opposite) →
    Outward (vector_sum (points c.args.a.now) (points (image c.args.b.now))) (at c.opposite.result)
leads c = elim c.if-count-gt2.branch [
  | then-count-gt2 w ↦ absurd (true≢false (sym (lt-ltb _ _ w.if-count-gt2.true) ∙ sym w.value-is ∙ c.if-is_on.false))
  | else-count-gt2 w ↦ opposed _ _ c.requires.0 c.requires.1 (saw c.before.before.before.before.before)
      w.if-count-gt2.false (sym (w.value-is ∙ w.is_on.ensures) ∙ c.if-is_on.false) c.first.ensures.result_value c.opposite.ensures
]

pub primitive-requires : goal.primitive-requires
primitive-requires c = fit _ _ c.requires.0 c.requires.1 (away c)

pub primitive-requires-in-Round-2 : goal.primitive-requires-in-Round-2
primitive-requires-in-Round-2 c = fit _ _ c.requires.0 c.requires.1 (leads c)

pub returns-in-Outside : goal.returns-in-Outside
returns-in-Outside c = found _ _ c.requires.0 c.requires.1 (away c.before) c.primitive.ensures

pub returns-in-Round : goal.returns-in-Round
returns-in-Round c =
    let (none, all, _) = saw c.before.before in
    elim c.if-count-gt2.branch [
      | then-count-gt2 w ↦ not-apart-many _ _ c.requires.0 c.requires.1 none (omega (arith, all, w.if-count-gt2.true))
      | else-count-gt2 w ↦ not-apart-on _ _ c.requires.0 c.requires.1 none (omega (arith, all, w.if-count-gt2.false))
          (sym (w.value-is ∙ w.is_on.ensures) ∙ c.if-is_on.true)
    ]

pub returns-in-Round-2 : goal.returns-in-Round-2
returns-in-Round-2 c = found _ _ c.requires.0 c.requires.1 (leads c.before) c.primitive-in-Round-2.ensures
