-- `look` meets its contract: the record is not asked for, or it is read and passed over, or measured, and then kept or not.
use mathlib.Core.Path.{◌≡◌, refl, sym, ◌∙◌, ap, subst}
use mathlib.Core.Bool.{true, false, not, ◌&&◌}
use mathlib.Core.List.{List}
use Prim.Native.Nat.{◌*◌, ◌≤◌}
use native.Mathlib.Omega.{arith}
use lib.Dec.{eqb}
use lib.ListN.{length, take}
use lib.IntN.{ℤ}
use lib.Seq.{length-take-le}
use Rattle.plane.specs.Limits.{max_corners}
use Rattle.plane.specs.Point.{points}
use Rattle.plane.specs.Refusal.{Valid}
use Rattle.plane.specs.Clearance.{clearance_numbers}
use Rattle.plane.specs.Distance.{distance}
use Rattle.clearance.specs.theory.Replies.{spaced-numbers}
use Rattle.extents.specs.theory.Gaps.{extends-bounded}
use Rattle.endian.specs.Bytes.{words_at}
use Rattle.endian.specs.theory.Bytes.{words_at-length}
use Rattle.endian.specs.theory.Coded.{front-is, front_length}
use Rattle.journal.specs.Survey.{Stated}
use Rattle.neighbours.specs.Search.{is_nearer, Onward}
use Rattle.neighbours.specs.theory.Spacings.{spacing-sized}
use Rattle.neighbours.specs.theory.Search.{here-numbers, count_fits, onward-other, onward-passed, onward-kept}
use Rattle.neighbours.proofs.look.Goals as goal
use Rattle.neighbours.proofs.look.Goals.{After-decode, After-head_at-head}

pub returns-then-not-is_asked : goal.returns-then-not-is_asked
returns-then-not-is_asked c =
    let args = c.args in (
      onward-other c.requires.0 c.head_at-head.ensures args.floor args.but (points args.list.now) args.best
          (sym c.is_asked.ensures ∙ c.if-not-is_asked.true),
      c.requires.3,
    )

-- what the record says, and that it is good
stated-here : (c : After-head_at-head) →
    let args = c.args in Stated args.log.now args.p c.head_at-head.result
stated-here c = c.head_at-head.ensures

pub decode-requires : goal.decode-requires
decode-requires c =
    let stated = stated-here (goal.at.decode-requires c).After-head_at-head in
    let few = count_fits c.requires.0 stated in
    (stated.inside, omega (arith, c.requires.3))

-- the buffer is as long as it was, and begins with the record's numbers
module _ (c : After-decode) where
  abbrev numbers : List ℤ
  numbers = words_at c.head_at-head.result.count c.args.log.now c.head_at-head.result.place

  few : c.head_at-head.result.count ≤ 2 * max_corners
  few = count_fits c.requires.0 (stated-here (goal.at.After-decode c).After-head_at-head)

  numbers-length : length numbers ≡ c.head_at-head.result.count
  numbers-length = words_at-length c.args.log.now c.head_at-head.result.count c.head_at-head.result.place

  decoded-length : length c.decode.new.out ≡ 2 * max_corners
  decoded-length =
      front_length numbers c.args.buffer.now _ c.decode.ensures (omega (arith, numbers-length, few, c.requires.3))
      ∙ c.requires.3

  decoded : take c.head_at-head.result.count c.decode.new.out ≡ numbers
  decoded = front-is numbers c.args.buffer.now _ c.decode.ensures c.head_at-head.result.count numbers-length

  decoded-valid : Valid (take c.head_at-head.result.count c.decode.new.out)
  decoded-valid = subst Valid (sym decoded) (here-numbers c.requires.0 (stated-here (goal.at.After-decode c).After-head_at-head))

pub slice_bounds-shape-end : goal.slice_bounds-shape-end
slice_bounds-shape-end c =
    let w = (goal.at.slice_bounds-shape-end c).After-decode in omega (arith, decoded-length w, few w)

pub slice_bounds-shape-end-2 : goal.slice_bounds-shape-end-2
slice_bounds-shape-end-2 c =
    let w = (goal.at.slice_bounds-shape-end-2 c).After-decode in
    sym (length-take-le _ c.decode.new.out (omega (arith, decoded-length w, few w)))

pub is_passed-requires : goal.is_passed-requires
is_passed-requires c =
    let pre = c.requires in
    (extends-bounded _ pre.1 pre.4, decoded-valid (goal.at.is_passed-requires c).After-decode, pre.2)

-- the record is asked for
asked : (c : After-decode) → let args = c.args in
    let head = c.head_at-head.result in (eqb head.floor args.floor && not (eqb head.name args.but)) ≡ true
asked c = sym c.is_asked.ensures ∙ c.if-not-is_asked.false

pub returns-then-is_passed : goal.returns-then-is_passed
returns-then-is_passed c =
    let args = c.args in
    let pre = c.requires in
    let far = c.is_passed.ensures c.if-is_passed.true (points args.list.now) pre.1.shape pre.4 in (
      onward-passed pre.0 (stated-here (goal.at.returns-then-is_passed c).After-head_at-head) args.floor args.but (points args.list.now)
          args.best pre.1.shape (asked (goal.at.returns-then-is_passed c).After-decode)
          (subst (λ l. is_nearer (distance (points args.list.now) (points l)) args.best ≡ false)
          (decoded (goal.at.returns-then-is_passed c).After-decode) far),
      decoded-length (goal.at.returns-then-is_passed c).After-decode,
    )

pub between-requires : goal.between-requires
between-requires c = (c.requires.1, decoded-valid (goal.at.between-requires c).After-decode)

pub kept-requires : goal.kept-requires
kept-requires c =
    let pre = c.requires in (
      pre.0,
      spacing-sized _ _ pre.1.shape (decoded-valid (goal.at.kept-requires c).After-decode).shape c.between.result
          (spaced-numbers _ _ c.between.result c.between.ensures),
      pre.2,
    )

pub returns : goal.returns
returns c =
    let args = c.args in
    let pre = c.requires in
    let spaced = spaced-numbers _ _ c.between.result c.between.ensures ∙ ap (λ l. clearance_numbers (points args.list.now) (points l))
    (decoded (goal.at.returns c).After-decode) in (
      subst (Onward (points args.list.now) args.floor args.but args.log.now args.p args.best)
          (sym c.kept.ensures)
          (onward-kept pre.0 (stated-here (goal.at.returns c).After-head_at-head) args.floor args.but (points args.list.now)
          args.best pre.1.shape (asked (goal.at.returns c).After-decode) _ refl spaced),
      decoded-length (goal.at.returns c).After-decode,
    )
