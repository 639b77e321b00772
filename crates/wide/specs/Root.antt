-- The square root of the fraction t·t/q, rounded down (document 01, "Width": w·w·q ≤ t·t < (w+1)·(w+1)·q).
--     RoundedRoot t q w     w is that root
-- What it means: `root-unique` of `theory/Bisection.antt`, there is no other.
use Rattle.std.specs.Prelude.{ℕ, ◌+◌, ◌*◌, ◌<◌, ◌≤◌}

pub record RoundedRoot (t q w : ℕ) : Type 0 where
  pub reached : w * w * q ≤ t * t
  pub next-above : t * t < (w + 1) * (w + 1) * q
