-- `is_shape_at` meets its contract: too many numbers are no shape, and others have room in the buffer.
use mathlib.Core.Path.{◌≡◌, refl, sym, ◌∙◌, ap}
use Prim.Native.Nat.{ℕ, ◌/◌, ◌≤◌}
use native.Mathlib.Omega.{arith}
use borrow.Author.Tests.{ltb-false}
use lib.Dec.{ltb}
use lib.ListN.{length}
use lib.Seq.{length-take-le}
use Rattle.plane.specs.Limits.{max_corners}
use Rattle.plane.specs.Point.{points}
use Rattle.plane.specs.Refusal.{too_many}
use Rattle.plane.proofs.theory.lists.Flat.{points-length}
use Rattle.endian.specs.Bytes.{words_at}
use Rattle.endian.specs.theory.Bytes.{words_at-length}
use Rattle.endian.specs.theory.Coded.{front-is, front_length}
use Rattle.journal.specs.Format.{judged, is_answer}
use Rattle.journal.proofs.theory.Judging.{many-refused, passed-answers}
use Rattle.journal.proofs.corners.is_shape_at.Goals as goal
use Rattle.journal.proofs.corners.is_shape_at.Goals.{After-decode, Else-exceeds_corners}

-- the numbers fit the buffer
fits : (c : Else-exceeds_corners) → c.args.n ≤ length c.args.buffer.now
fits c =
    let few = ltb-false max_corners (c.args.n / 2) (sym c.exceeds_corners.ensures ∙ c.if-exceeds_corners.false) in
    c.requires.2 c.args.n (omega (arith, c.requires.0)) (omega (arith, few, c.requires.1))

pub returns-then-exceeds_corners : goal.returns-then-exceeds_corners
unfolding too_many
returns-then-exceeds_corners c =
    let args = c.args in
    let l = words_at args.n args.log.now args.p in
    let count : length (points l) ≡ args.n / 2 =
    points-length l ∙ ap (λ (k : ℕ). k / 2) (words_at-length args.log.now args.n args.p) in
    (many-refused l (ap (ltb max_corners) count ∙ sym c.exceeds_corners.ensures ∙ c.if-exceeds_corners.true), refl)

pub decode-requires : goal.decode-requires
decode-requires c = (c.requires.0, fits (goal.at.decode-requires c).Else-exceeds_corners)

-- the buffer is as long as it was
kept : (c : After-decode) →
    length c.decode.new.out ≡ length c.args.buffer.now
kept c =
    let args = c.args in
    front_length (words_at args.n args.log.now args.p) args.buffer.now _ c.decode.ensures
    (omega (arith, words_at-length args.log.now args.n args.p, fits (goal.at.After-decode c).Else-exceeds_corners))

pub slice_bounds-passes-end : goal.slice_bounds-passes-end
slice_bounds-passes-end c = omega (
  arith,
  kept (goal.at.slice_bounds-passes-end c).After-decode,
  fits (goal.at.slice_bounds-passes-end c).Else-exceeds_corners,
)

pub slice_bounds-passes-end-2 : goal.slice_bounds-passes-end-2
slice_bounds-passes-end-2 c =
    sym (length-take-le _ c.decode.new.out (omega (
      arith,
      kept (goal.at.slice_bounds-passes-end-2 c).After-decode,
      fits (goal.at.slice_bounds-passes-end-2 c).Else-exceeds_corners,
    )))

pub returns : goal.returns
returns c =
    let args = c.args in
    let l = words_at args.n args.log.now args.p in
    let count = words_at-length args.log.now args.n args.p in (
      passed-answers _ _ c.passes.ensures
          ∙ ap (λ m. is_answer (judged m)) (front-is l args.buffer.now _ c.decode.ensures args.n count),
      kept (goal.at.returns c).After-decode,
    )
