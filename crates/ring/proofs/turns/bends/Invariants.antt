use Prim.Native.Nat.{◌≤◌}
use lib.ListN.{length, get_or, drop}
use Rattle.plane.specs.Point.{points, corner}
use Rattle.ring.specs.Round.{in_sense, bending, bends}
use Rattle.ring.specs.Ring.{previous}
use Rattle.ring.specs.theory.Buffers.{Coming}
use Rattle.ring.proofs.turns.bends.Given as goal

abbrev pub invariant-loop-j : goal.invariant-loop-j
invariant-loop-j l =
    let xs = in_sense l.back l.kept in
    Coming (bends (corner (points l.list)) xs)
    (bending (corner (points l.list)) (get_or xs (previous (length xs) l.j) 0) (drop l.j xs) (get_or xs 0 0)) l.count l.bent
    × (l.count ≤ l.j)
