-- `sweep_few` meets its contract: the points that stay are inserted one by one, and their outline is the shape.
use mathlib.Core.Path.{◌∙◌, ap, subst}
use mathlib.Core.List.{List}
use native.Mathlib.Omega.{arith}
use lib.ListN.{take}
use lib.Seq.{length-take-le}
use Rattle.plane.specs.Point.{Point, points}
use Rattle.plane.proofs.theory.lists.Flat.{points-length}
use Rattle.plane.specs.Corner.{ascending, outline, shape_of}
use Rattle.polygon.specs.Front.{Front}
use Rattle.sorting.specs.Buffer.{Holds, SmallTo}
use Rattle.sorting.specs.theory.Least.{ascending-length}
use Rattle.sorting.specs.theory.Held.{held-count, held-some, held-front, held-part, part_small}
use Rattle.hull.proofs.sweep_few.Goals as goal
use Rattle.hull.proofs.sweep_few.Goals.{After-insert_all-n, After-reduce-m}

pub reduce-m-requires : goal.reduce-m-requires
reduce-m-requires c = (c.requires.0.some, c.requires.0.in_range, omega (arith, c.requires.1))

-- the points that stay may be computed with
reduced-small : (c : After-reduce-m) → SmallTo c.reduce-m.new.buf c.reduce-m.result
reduced-small c =
    part_small c.args.list.now c.requires.0.in_range c.reduce-m.ensures.within c.reduce-m.ensures.part

pub insert_all-n-requires : goal.insert_all-n-requires
insert_all-n-requires c =
    let r = c.reduce-m.ensures in
    (r.within, omega (arith, r.few, c.requires.2, points-length c.args.list.now), reduced-small c.before.before)

-- they are sorted
sorted : (c : After-insert_all-n) →
    let ps = points c.reduce-m.new.buf in
    Holds c.insert_all-n.new.buf c.insert_all-n.result (ascending (take c.reduce-m.result ps))
sorted c =
    held-front (points c.reduce-m.new.buf) c.reduce-m.ensures.within c.insert_all-n.ensures

pub outline-requires : goal.outline-requires
outline-requires c =
    let m = c.reduce-m.result in
    let ps = points c.reduce-m.new.buf in
    let r = c.reduce-m.ensures in
    let h = sorted c.before.before.before in (
      held-some (take m ps) h (omega (arith, r.some, length-take-le m ps r.within)),
      h.within,
      omega (
        arith,
        held-count h,
        ascending-length (take m ps),
        length-take-le m ps r.within,
        r.few,
        c.requires.1,
        c.reduce-m.auto.buf,
        points-length c.args.buf.now,
        points-length c.reduce-m.new.buf,
      ),
      part_small c.args.list.now c.requires.0.in_range h.within (λ p n. r.part p (held-part (take m ps) h p n)),
    )

pub returns : goal.returns
unfolding shape_of
returns c =
    subst (λ (ps : List Point). Front ps c.outline.result c.outline.new.buf)
    (ap outline (sorted c.before.before.before.before.before).front ∙ c.reduce-m.ensures.shape) c.outline.ensures
