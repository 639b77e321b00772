-- `left_chain` meets its contract: what is taken of each shape's own chain down is a row that rises.
use mathlib.Core.Path.{◌≡◌, ◌∙◌, ap, subst}
use mathlib.Core.Bool.{false}
use mathlib.Core.List.{List}
use Prim.Native.Nat.{ℕ}
use native.Mathlib.Omega.{arith}
use lib.ListN.{length}
use Rattle.plane.specs.Point.{Point, points}
use Rattle.polygon.specs.Point.{at}
use Rattle.sorting.specs.Buffer.{Chained}
use Rattle.sorting.specs.Order.{closed, left_over}
use Rattle.hull.specs.Chain.{home, row_end, left_rows}
use Rattle.hull.specs.theory.Unite.{left_over-length}
use Rattle.hull.specs.theory.Spread.{first-left, second-left, row_line, row-rising, rows_as, spread-small}
use Rattle.hull.proofs.left_chain.Goals as goal
use Rattle.hull.proofs.left_chain.Goals.{After-trimmed-other, After-trimmed-row}

-- the ends of the rows, by the definition of where the chains end
first-end : (c : After-trimmed-row) → let args = c.args in
    let A = points args.a.now in
    c.trimmed-row.result.end ≡ row_end (closed A) (home A args.i) (at args.top) (at args.bottom)
first-end c =
    let args = c.args in
    c.trimmed-row.ensures.1
    ∙ ap (λ (k : ℕ). row_end (closed (points args.a.now)) k (at args.top) (at args.bottom)) c.home.ensures

second-end : (c : After-trimmed-other) → let args = c.args in
    let B = points args.b.now in
    c.trimmed-other.result.end ≡ row_end (closed B) (home B args.j) (at args.top) (at args.bottom)
second-end c =
    let args = c.args in
    c.trimmed-other.ensures.1
    ∙ ap (λ (k : ℕ). row_end (closed (points args.b.now)) k (at args.top) (at args.bottom)) c.home-2.ensures

-- the rows, by their definition
rows : (c : After-trimmed-other) → let args = c.args in
    let row = c.trimmed-row.result in
    let other = c.trimmed-other.result in
    left_over (closed (points args.a.now)) row.first row.end (closed (points args.b.now)) other.first other.end
    ≡ left_rows (points args.a.now) args.i (points args.b.now) args.j (at args.bottom) (at args.top)
rows c =
    let args = c.args in
    let A = points args.a.now in
    let B = points args.b.now in
    rows_as A args.i (home A args.i) B args.j (home B args.j) (at args.top) (at args.bottom)
    c.trimmed-row.ensures.0 (first-end c.before.before) c.trimmed-other.ensures.0 (second-end c)

pub home-requires : goal.home-requires
home-requires c = tt

pub trimmed-row-requires : goal.trimmed-row-requires
trimmed-row-requires c =
    let pre = c.requires in
    let chain = (first-left pre.0.shape pre.1.shape pre.2).chain in
    let small = spread-small pre.0 pre.1 pre.2 in (
      omega (arith, c.home.ensures, chain.order),
      omega (arith, c.home.ensures, chain.within),
      row_line pre.0 (omega (arith, c.home.ensures, chain.within)),
      small.1,
      small.0,
    )

pub home-requires-2 : goal.home-requires-2
home-requires-2 c = tt

pub trimmed-other-requires : goal.trimmed-other-requires
trimmed-other-requires c =
    let pre = c.requires in
    let chain = (second-left pre.0.shape pre.1.shape pre.2).chain in
    let small = spread-small pre.0 pre.1 pre.2 in (
      omega (arith, c.home-2.ensures, chain.order),
      omega (arith, c.home-2.ensures, chain.within),
      row_line pre.1 (omega (arith, c.home-2.ensures, chain.within)),
      small.1,
      small.0,
    )

pub chain-requires : goal.chain-requires
chain-requires c =
    let pre = c.requires in
    let A = pre.0.shape in
    let B = pre.1.shape in
    let row = c.trimmed-row in
    let other = c.trimmed-other in
    let small = spread-small pre.0 pre.1 pre.2 in
    let count = left_over-length (closed (points c.args.a.now)) row.result.first row.result.end
    (closed (points c.args.b.now)) other.result.first other.result.end in (
      row-rising pre.0 (first-left A B pre.2) row.ensures.0 (first-end c.before.before.before),
      row-rising pre.1 (second-left A B pre.2) other.ensures.0 (second-end c.before),
      omega (arith, count, ap (λ (l : List Point). length l) (rows c.before), pre.3),
      small.1,
      small.0,
    )

pub returns : goal.returns
returns c =
    let args = c.args in
    let after = c.chain.new.buf in
    subst (λ (S : List Point). Chained false S (at args.top) (at args.bottom) args.buf.now after c.chain.result)
    (rows c.before.before.before) c.chain.ensures
