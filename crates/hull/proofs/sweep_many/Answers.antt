-- `sweep_many` meets its contract: the points that stay are brought near their order and inserted, and their outline is the shape.
use mathlib.Core.Path.{◌∙◌, ap, subst}
use mathlib.Core.List.{List}
use native.Mathlib.Omega.{arith}
use lib.ListN.{take}
use lib.Seq.{length-take-le}
use Rattle.plane.specs.Limits.{max_points}
use Rattle.plane.specs.Point.{Point, points}
use Rattle.plane.proofs.theory.lists.Flat.{points-length}
use Rattle.plane.specs.Corner.{ascending, outline, shape_of}
use Rattle.polygon.specs.Front.{Front}
use Rattle.sorting.specs.Buffer.{Holds}
use Rattle.sorting.specs.Interior.{Reduced}
use Rattle.sorting.specs.theory.Least.{ascending-length}
use Rattle.sorting.specs.theory.Held.{held-count, held-some, held-front, held-part, part_small}
use Rattle.sorting.specs.theory.Digits.{reduced-rearranged}
use Rattle.hull.proofs.sweep_many.Goals as goal
use Rattle.hull.proofs.sweep_many.Goals.{After-insert_all-n, After-presort}

pub reduce-m-requires : goal.reduce-m-requires
reduce-m-requires c = (c.requires.0.some, c.requires.0.in_range, omega (arith, c.requires.1))

pub presort-requires : goal.presort-requires
unfolding max_points
presort-requires c =
    let r = c.reduce-m.ensures in (
      r.within,
      omega (arith, r.few, c.requires.0.few),
      omega (arith, r.few, c.requires.0.few),
      part_small c.args.list.now c.requires.0.in_range r.within r.part,
    )

-- the points that stay, near their order
kept : (c : After-presort) →
    Reduced (points c.args.list.now) c.presort.new.buf c.reduce-m.result
kept c = reduced-rearranged c.reduce-m.ensures c.presort.ensures

pub insert_all-n-requires : goal.insert_all-n-requires
unfolding max_points
insert_all-n-requires c =
    let r = kept c.before.before.before in (
      r.within,
      omega (arith, r.few, c.requires.0.few, c.presort.auto.spare, points-length c.presort.new.spare),
      part_small c.args.list.now c.requires.0.in_range r.within r.part,
    )

-- they are sorted
sorted : (c : After-insert_all-n) →
    let m = c.reduce-m.result in
    Holds c.insert_all-n.new.buf c.insert_all-n.result (ascending (take m (points c.presort.new.buf)))
sorted c =
    held-front (points c.presort.new.buf) (kept c.before.before.before.before).within c.insert_all-n.ensures

pub outline-requires : goal.outline-requires
outline-requires c =
    let m = c.reduce-m.result in
    let ps = points c.presort.new.buf in
    let r = kept c.before.before.before.before.before.before.before in
    let h = sorted c.before.before.before in (
      held-some (take m ps) h (omega (arith, r.some, length-take-le m ps r.within)),
      h.within,
      omega (
        arith,
        held-count h,
        ascending-length (take m ps),
        length-take-le m ps r.within,
        r.few,
        c.requires.1,
        c.presort.auto.buf,
        c.reduce-m.auto.buf,
        points-length c.args.buf.now,
        points-length c.presort.new.buf,
      ),
      part_small c.args.list.now c.requires.0.in_range h.within (λ p n. r.part p (held-part (take m ps) h p n)),
    )

pub returns : goal.returns
unfolding shape_of
returns c =
    subst (λ (ps : List Point). Front ps c.outline.result c.outline.new.buf)
    (ap outline (sorted c.before.before.before.before.before).front ∙
    (kept c.before.before.before.before.before.before.before.before.before).shape) c.outline.ensures
