-- What pairs of corners and edges are compared by. Our own, not of document 01.
--     NotAfter i j k l        the pair (i, j) is no later than (k, l): smaller i, or the same i and no greater j
--     NoBetter ps k l i j     the pair (k, l) is no better than (i, j): not further apart, and if as far, not earlier
--     Stands ps i m k l       at place (i, m) of the half walk are the corners k and l, in the order of their positions
--     Facing ps e c           c is the first corner that has the greatest turn against edge e
--     Narrowest ps P e        of the edges of which P holds, e is the first with the least t·t/q
--     Measured ps e c t q     edge e is measured: corner c on the way round has the greatest turn t, and q is the squared length
--     Width ps P e c t q      the best of the edges of which P holds, so measured; where there is none t·t/q is 1/0, wider than any
use Rattle.std.specs.Prelude.{◌≡◌, true, false, cond, List, ℕ, ◌≤◌, ◌<◌, eqb, pos, length, ◌≤ℤ◌}
use Rattle.plane.specs.Point.{Point, corner}
use Rattle.plane.specs.Cycle.{round}
use Rattle.plane.specs.Measure.{squared, edge_turn, height, edge_squared, no_wider}

-- ---- length

pub data NotAfter (i j k l : ℕ) : Type 0 where
  sooner : i < k → NotAfter i j k l
  level : i ≡ k → j ≤ l → NotAfter i j k l

pub record NoBetter (ps : List Point) (k l i j : ℕ) : Type 0 where
  pub no-further : squared (corner ps k) (corner ps l) ≤ℤ squared (corner ps i) (corner ps j)
  pub no-earlier : squared (corner ps i) (corner ps j) ≤ℤ squared (corner ps k) (corner ps l) → NotAfter i j k l

-- after the last corner the first comes again, and is given first
pub record Stands (ps : List Point) (i m k l : ℕ) : Type 0 where
  pub from_is : cond (eqb m (length ps)) 0 i ≡ k
  pub to_is : cond (eqb m (length ps)) i m ≡ l

-- ---- width

pub record Facing (ps : List Point) (e c : ℕ) : Type 0 where
  pub within : c < length ps
  pub has : edge_turn ps e c ≡ height ps e
  pub sole : (k : ℕ) → k < c → edge_turn ps e k ≡ height ps e → ⊥

pub record Narrowest (ps : List Point) (P : ℕ → Type 0) (e : ℕ) : Type 0 where
  pub edges-in : (f : ℕ) → P f → f < length ps
  pub among : P e
  pub least : (f : ℕ) → P f → no_wider ps e f ≡ true
  pub sole : (f : ℕ) → P f → f < e → no_wider ps f e ≡ false

pub record Measured (ps : List Point) (e c t q : ℕ) : Type 0 where
  pub corner-in : c ≤ length ps
  pub has : edge_turn ps e (round (length ps) c) ≡ height ps e
  pub turns : height ps e ≡ pos t
  pub long : edge_squared ps e ≡ pos q

pub data Width (ps : List Point) (P : ℕ → Type 0) (e c : ℕ) : ℕ → ℕ → Type 0 where
  none : ((f : ℕ) → P f → ⊥) → Width ps P e c 1 0
  best : {t q : ℕ} → Narrowest ps P e → Measured ps e c t q → Width ps P e c t q
