-- What the search finds, and the pairs of corners at which its walk is.
--     IsGreatest A B r     the greatest squared distance and the two positions
--     pair_of A B i j       corner i of A and corner j of B, with their squared distance
--     pair_at A B t i j     the pair at place (i, j) of the walk round A and the mirror image of B, whose peak is corner t
use Rattle.std.specs.Prelude.{◌≡◌, List, ℕ, pos, nat_abs, length}
use Rattle.plane.specs.Point.{Point, corner}
use Rattle.plane.specs.Cycle.{round, turned}
use Rattle.plane.specs.Measure.{squared}
use Rattle.measure.specs.declared.Length.{Length}
use Rattle.reach.specs.Greatest.{greatest_squared, greatest_first, greatest_second}

pub record IsGreatest (A B : List Point) (r : Length) : Type 0 where
  pub squared-is : pos r.squared ≡ greatest_squared A B
  pub from_is : r.from ≡ greatest_first A B
  pub to_is : r.to ≡ greatest_second A B

unfoldable pub pair_of : List Point → List Point → ℕ → ℕ → Length
pair_of A B i j = record { squared = nat_abs (squared (corner A i) (corner B j)); from = i; to = j }

-- after the last corner of A comes its first again; the image is passed from its first corner on, the opposite of the peak
abbrev pub pair_at : List Point → List Point → ℕ → ℕ → ℕ → Length
pair_at A B t i j = pair_of A B (round (length A) i) (turned (length B) t j)
