-- A walk under way round the corners of a sum, as long as no edge that is passed has the origin to its right. Our own, not of document 01.
--     Passing a b walk count rim    `count` edges are passed; whether one had the origin not to its left
--     Strode a b s t joined         the walk with these two sides is not over, and each edge that is passed had the origin to its left; at
--                                   `joined` steps both sides went on
--     Stood a b i j                 the walk is where i edges of the one shape and j of the other are passed, and is not over
use Rattle.std.specs.Prelude.{◌≡◌, Bool, false, List, ℕ, ◌+◌, ◌≤◌, ◌<◌, ℤ, length}
use Rattle.plane.specs.Point.{points}
use Rattle.plane.specs.Search.{some}
use Rattle.plane.specs.Separation.{not_left}
use Rattle.plane.specs.VectorSum.{vector_sum}
use Rattle.calipers.specs.declared.side.Side.{Side}
use Rattle.calipers.specs.Side.{Carried, walk_of}
use Rattle.calipers.specs.Walk.{Walk, begun, stepped, At}
use Rattle.separation.specs.Around.{right_of}

pub record Passing (a b : List ℤ) (walk : Walk) (count : ℕ) (rim : Bool) : Type 0 where
  pub start : At a b begun
  pub within : count ≤ length (vector_sum (points a) (points b))
  pub moved : walk ≡ stepped (points a) (points b) count begun
  pub inner : some (right_of (vector_sum (points a) (points b))) count ≡ false
  pub rim-is : rim ≡ some (not_left (vector_sum (points a) (points b))) count

pub record Strode (a b : List ℤ) (s t : Side) (joined : ℕ) : Type 0 where
  pub count : ℕ
  pub counted : count + joined ≡ s.at + t.at
  pub passing : Passing a b (walk_of s t false) count false
  pub first-side : Carried a s
  pub second-side : Carried b t

pub record Stood (a b : List ℤ) (i j : ℕ) : Type 0 where
  pub count : ℕ
  pub below : count < length (vector_sum (points a) (points b))
  pub moved : record { i = i; j = j; over = false } ≡ stepped (points a) (points b) count begun
