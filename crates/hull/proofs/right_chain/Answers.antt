-- `right_chain` meets its contract: what is taken of each shape's own chain up is a row that rises.
use mathlib.Core.Path.{◌≡◌, ap, subst}
use mathlib.Core.Bool.{true}
use mathlib.Core.List.{List}
use native.Mathlib.Omega.{arith}
use lib.ListN.{length}
use Rattle.plane.specs.Point.{Point, points}
use Rattle.polygon.specs.Point.{at}
use Rattle.sorting.specs.Buffer.{Chained}
use Rattle.sorting.specs.Order.{closed, left_over}
use Rattle.hull.specs.Chain.{right_rows}
use Rattle.hull.specs.theory.Unite.{left_over-length}
use Rattle.hull.specs.theory.Spread.{first-right, second-right, row_line, row-rising, rows_as, spread-small}
use Rattle.hull.proofs.right_chain.Goals as goal
use Rattle.hull.proofs.right_chain.Goals.{After-trimmed-other}

-- the rows, by their definition
rows : (c : After-trimmed-other) → let args = c.args in
    let row = c.trimmed-row.result in
    let other = c.trimmed-other.result in
    left_over (closed (points args.a.now)) row.first row.end (closed (points args.b.now)) other.first other.end
    ≡ right_rows (points args.a.now) args.i (points args.b.now) args.j (at args.bottom) (at args.top)
rows c =
    let args = c.args in
    rows_as (points args.a.now) 0 args.i (points args.b.now) 0 args.j (at args.bottom) (at args.top)
    c.trimmed-row.ensures.0 c.trimmed-row.ensures.1 c.trimmed-other.ensures.0 c.trimmed-other.ensures.1

pub trimmed-row-requires : goal.trimmed-row-requires
trimmed-row-requires c =
    let peak = c.requires.2.first-peak in
    let small = spread-small c.requires.0 c.requires.1 c.requires.2 in
    (omega arith, omega (arith, peak.within), row_line c.requires.0 (omega (arith, peak.within)), small.0, small.1)

pub trimmed-other-requires : goal.trimmed-other-requires
trimmed-other-requires c =
    let pre = c.requires in
    let peak = pre.2.second-peak in
    let small = spread-small pre.0 pre.1 pre.2 in
    (omega arith, omega (arith, peak.within), row_line pre.1 (omega (arith, peak.within)), small.0, small.1)

pub chain-requires : goal.chain-requires
chain-requires c =
    let pre = c.requires in
    let A = pre.0.shape in
    let B = pre.1.shape in
    let row = c.trimmed-row in
    let other = c.trimmed-other in
    let small = spread-small pre.0 pre.1 pre.2 in
    let count = left_over-length (closed (points c.args.a.now)) row.result.first row.result.end
    (closed (points c.args.b.now)) other.result.first other.result.end in (
      row-rising pre.0 (first-right A B pre.2) row.ensures.0 row.ensures.1,
      row-rising pre.1 (second-right A B pre.2) other.ensures.0 other.ensures.1,
      omega (arith, count, ap (λ (l : List Point). length l) (rows c.before), pre.3),
      small.0,
      small.1,
    )

pub returns : goal.returns
returns c =
    let args = c.args in
    let after = c.chain.new.buf in
    subst (λ (S : List Point). Chained true S (at args.bottom) (at args.top) args.buf.now after c.chain.result)
    (rows c.before.before.before) c.chain.ensures
