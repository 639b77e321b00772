-- `outermost` meets its contract. The invariant: the first furthest of the first i corners; the measure is how many are to come.
use mathlib.Core.Path.{◌≡◌, sym, subst}
use Prim.Native.Nat.{ℕ}
use native.Mathlib.Numerals.{add-one}
use native.Mathlib.Omega.{arith}
use lib.ListN.{length}
use Rattle.plane.specs.Point.{points}
use Rattle.excess.proofs.Search.{Searched, searched-start, searched-next, searched-done}
use Rattle.excess.proofs.outermost.outermost.Goals as goal
use Rattle.excess.proofs.outermost.outermost.Goals.{After-further-best}

pub distance_of-best-requires : goal.distance_of-best-requires
distance_of-best-requires c = let pre = c.requires in (pre.0, pre.1, pre.0.shape.some)

pub loop-i-init : goal.loop-i-init
loop-i-init c = searched-start c.distance_of-best.ensures

pub loop-i-preserved : goal.loop-i-preserved
loop-i-preserved c =
    subst (λ (k : ℕ). Searched (points c.args.new.now) (points c.args.old.now) k c.further-best.result) (sym (add-one c.loop-i.i))
    (searched-next c.requires.1.shape c.loop-i.invariant c.distance_of.ensures c.further-best.ensures)

pub returns : goal.returns
returns c =
    let all : c.loop-i.i ≡ length (points c.args.new.now) =
    omega (arith, c.loop-i.auto.i-end, c.loop-i-test.false, c.count-i-end.ensures, c.requires.0.shape.some) in
    searched-done (subst (λ (k : ℕ). Searched (points c.args.new.now) (points c.args.old.now) k c.loop-i.best) all c.loop-i.invariant)
