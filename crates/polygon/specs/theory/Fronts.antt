-- Corners at the front of a buffer.
--     overwritten-front     what is written over the front of a list is there
--     front-points          read back, they are the corners; `front-paired`: an even count of numbers
use Rattle.std.specs.Prelude.{◌≡◌, List, ℕ, ◌*◌, ℤ, length, take, drop}
use Rattle.std.proofs.Common.{sym, ◌∙◌, ap, arith, length-append, take_at, length-take-le}
use Rattle.plane.specs.Point.{Point, points, numbers}
use Rattle.plane.specs.Output.{overwritten}
use Rattle.plane.proofs.theory.lists.Flat.{points-numbers, numbers-length}
use Rattle.polygon.specs.Front.{Front}

pub overwritten-front : (ps : List Point) (n : ℕ) (old out : List ℤ) → n ≡ length ps → out ≡ overwritten (numbers ps) old → Front ps n out
unfolding overwritten
overwritten-front ps n old out counted e =
    let lengths = length-append (numbers ps) (drop (length (numbers ps)) old) in
    let double : length (numbers ps) ≡ 2 * n = numbers-length ps ∙ ap (λ k. 2 * k) (sym counted) in
    record {
      counted = counted;
      fits = omega (arith, ap length e, lengths, double);
      front = ap (take (2 * n)) e ∙ take_at (numbers ps) (drop (length (numbers ps)) old) (2 * n) double;
    }

module _ {ps : List Point} {n : ℕ} {l : List ℤ} (f : Front ps n l) where
  pub front-points : points (take (2 * n) l) ≡ ps
  front-points = ap points f.front ∙ points-numbers ps

  pub front_length : length (take (2 * n) l) ≡ 2 * n
  front_length = length-take-le (2 * n) l f.fits
