-- The test whether a corner turns in, by its parts.
--     few-inside       of fewer than three corners none does
--     turn_inside      one that does not turn left does
--     first-inside     the first does so only by its turn
--     apart-inside     one that turns left and does not precede the corner before does not
--     both-inside      one that turns left and precedes the corner before does if it precedes the corner after
use Rattle.std.specs.Prelude.{◌≡◌, Bool, true, false, ℕ, ◌≤◌, ◌<◌, pos}
use borrow.Author.Tests.{lt-ltb, le-ltb}
use Rattle.std.specs.Int.Signed.{lt_z}
use Rattle.plane.specs.Point.{Point}
use Rattle.plane.specs.Turn.{turn}
use Rattle.plane.specs.Shape.{next, precedes}
use Rattle.ring.specs.Ring.{previous, turns_in}

module _ (g : ℕ → Point) (n i : ℕ) where
  abbrev left : Bool
  left = lt_z (pos 0) (turn (g (previous n i)) (g i) (g (next n i)))

  pub few-inside : n ≤ 2 → turns_in g n i ≡ false
  unfolding turns_in
  few-inside h = rw (le-ltb 2 n h)

  module _ (three : 2 < n) where
    pub turn_inside : left ≡ false → turns_in g n i ≡ true
    unfolding turns_in
    turn_inside e = rw (lt-ltb 2 n three, e)

    pub first-inside : left ≡ true → i ≤ 0 → turns_in g n i ≡ false
    unfolding turns_in
    first-inside e h = rw (lt-ltb 2 n three, e, le-ltb 0 i h)

    pub apart-inside : left ≡ true → 0 < i → precedes (g i) (g (previous n i)) ≡ false → turns_in g n i ≡ false
    unfolding turns_in
    apart-inside e h p = rw (lt-ltb 2 n three, e, lt-ltb 0 i h, p)

    pub both-inside : left ≡ true → 0 < i → precedes (g i) (g (previous n i)) ≡ true → turns_in g n i ≡ precedes (g i) (g (next n i))
    unfolding turns_in
    both-inside e h p = rw (lt-ltb 2 n three, e, lt-ltb 0 i h, p)
