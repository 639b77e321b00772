-- The number of corners of a sum, as far as refusals 6 and 8 need it. Our own, not of document 01.
--     Reckoned n room r    r is the number of corners n; or at least as many, and no more than a shape may have and than the room holds; or
--                          both are more than a shape may have
use Rattle.std.specs.Prelude.{◌≡◌, ℕ, ◌*◌, ◌≤◌, ◌<◌}
use Rattle.plane.specs.Limits.{max_corners}

pub data Reckoned (n room r : ℕ) : Type 0 where
  exact : r ≡ n → Reckoned n room r
  enough : n ≤ r → r ≤ max_corners → 2 * r ≤ room → Reckoned n room r
  many : max_corners < n → max_corners < r → Reckoned n room r
