-- The limits of documents 01 and 02, each named once. They stay shut: proofs use the facts below, and not the numbers.
--     max_corners       "1 to 512 corners", and W7: "Raise 512 corners to 1,024 everywhere"
--     max_coordinate    "each coordinate from -1,000,000 to 1,000,000"
--     max_points        of document 02, W10, the points of a sweep: "up to 1,024 points"
--     max_part          the parts of a direction, refusal 11: "-2,000,000 to 2,000,000"
--     max_floor         of document 02, W11 and W14: "a floor number from 0 to 65,535"
use Rattle.std.specs.Prelude.{ℕ, ◌≤◌, ◌^◌}
use Rattle.std.proofs.Common.{lit≤}

unfoldable pub max_corners : ℕ
max_corners = 1_024

unfoldable pub max_coordinate : ℕ
max_coordinate = 1_000_000

unfoldable pub max_points : ℕ
max_points = 1_024

unfoldable pub max_part : ℕ
max_part = 2_000_000

unfoldable pub max_floor : ℕ
max_floor = 65_535

-- ---- what proofs use: enough room for signed 32-bit differences and signed 64-bit products

pub corners-small : max_corners ≤ 2 ^ 16
unfolding max_corners
corners-small = lit≤ tt

pub coordinate-small : max_coordinate ≤ 2 ^ 20
unfolding max_coordinate
coordinate-small = lit≤ tt

pub part_small : max_part ≤ 2 ^ 21
unfolding max_part
part_small = lit≤ tt

-- two bytes hold a floor
pub floor-small : max_floor ≤ 65535
unfolding max_floor
floor-small = lit≤ tt

-- the shape of as many points as a sweep may have is never too large
pub points-le-corners : max_points ≤ max_corners
unfolding max_points max_corners
points-le-corners = lit≤ tt
