-- Our own, not of document 02: what the code asks of a double.
--     whole v        a whole number
--     small v        not 0, and less than 1 in size
--     short v        less than 2^31 in size
--     truncated v    its whole part
use Rattle.std.specs.Prelude.{◌*◌, ◌/◌, ◌%◌, ◌^◌, Bool, ◌&&◌, ℤ, ◌==◌, nat_lt, Float}
use Rattle.tablet.specs.Double.{negative, over, under, signed}

unfoldable pub whole : Float → Bool
whole v = over v % under v == 0

unfoldable pub small : Float → Bool
small v = nat_lt 0 (over v) && nat_lt (over v) (under v)

unfoldable pub short : Float → Bool
short v = nat_lt (over v) (2 ^ 31 * under v)

unfoldable pub truncated : Float → ℤ
truncated v = signed (negative v) (over v / under v)
