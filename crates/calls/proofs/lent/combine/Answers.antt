-- `combine` meets its contract: the lists are read, and the question is asked.
use mathlib.Core.Path.{◌≡◌, refl, sym, ◌∙◌, ap}
use mathlib.Core.List.{List}
use native.Mathlib.Omega.{arith}
use lib.IntN.{ℤ}
use lib.ListN.{length, take}
use lib.Seq.{length-take-le}
use Rattle.plane.specs.Floor.{on}
use Rattle.plane.specs.Question.{Question}
use Rattle.crossing.specs.LowFloor.{low_floor}
use Rattle.bytewise.specs.Bytes.{words_in}
use Rattle.bytewise.specs.Packing.{packed}
use Rattle.bytewise.specs.Passing.{combined, asked}
use Rattle.bytewise.specs.theory.Alike.{pair-reply, pair-bytes}
use Rattle.calls.specs.theory.Few.{combined-holds}
use Rattle.calls.proofs.lent.combine.Goals as goal
use Rattle.calls.proofs.lent.combine.Goals.{After-read-m, After-read-n}

-- as many numbers were read as are passed on
first_read : (c : After-read-m) → c.read-m.result ≡ length (take c.read-m.result c.read-m.new.numbers)
first_read c = sym (length-take-le _ c.read-m.new.numbers c.read-m.ensures.0)

second-read : (c : After-read-n) → c.read-n.result ≡ length (take c.read-n.result c.read-n.new.numbers)
second-read c = sym (length-take-le _ c.read-n.new.numbers c.read-n.ensures.0)

pub slice_bounds-combine-end-2 : goal.slice_bounds-combine-end-2
slice_bounds-combine-end-2 c = first_read (goal.at.slice_bounds-combine-end-2 c).After-read-m

pub slice_bounds-combine-end-4 : goal.slice_bounds-combine-end-4
slice_bounds-combine-end-4 c = second-read (goal.at.slice_bounds-combine-end-4 c).After-read-n

pub combine-requires : goal.combine-requires
combine-requires c =
    combined-holds c.args.merged _ _
    (omega (arith, first_read (goal.at.combine-requires c).After-read-m, c.read-m.ensures.0, c.read-m.auto.numbers))
    (omega (arith, second-read (goal.at.combine-requires c).After-read-n, c.read-n.ensures.0, c.read-n.auto.numbers))
    c.requires.2

pub returns : goal.returns
unfolding low_floor
returns c =
    let args = c.args in
    let f = args.f in
    let g = args.g in
    let out = words_in args.out.now in
    let asks : List ℤ → List ℤ → Question = λ (l m : List ℤ). asked (combined args.merged) (on l f) (on m g) out in
    let u = c.read-m.ensures.1 in
    let v = c.read-n.ensures.1 in (
      c.combine.ensures.0 ∙ ap packed (pair-reply f g asks (λ l m. refl) u v),
      c.combine.ensures.1 ∙ pair-bytes f g asks (λ l m. refl) u v args.out.now,
    )
