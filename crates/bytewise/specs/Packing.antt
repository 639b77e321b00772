-- A reply as one number (document 02, W14: "Each call answers one 64-bit number, from its low end").
--     refusal_field r    "a byte for the refusal or 0"
--     shape_field r      "a byte for the shape that 1 to 5 blame, 1 or 2, or 0"
--     first_field r      "two bytes for 4's edge, or when answered the corner count, for relation 0 apart, 1 touching, 2 overlapping"
--     second_field r     "two for 4's corner, or when answered the floor"
--     packed r          the number; "the rest 0"
--     Fits r            each field has room in its bytes. Every reply of `Bytes.antt` does: `theory/Fits.antt`
-- What it means: `packed-back`, each field is read back from the number, and the two bytes above them are 0.
use Rattle.std.specs.Prelude.{◌≡◌, ℕ, ◌+◌, ◌*◌, ◌/◌, ◌%◌, ◌<◌, pos, get_or}
use Rattle.std.proofs.Common.{arith}
use Rattle.plane.specs.Reply.{Reply, answered, refused}
use Rattle.wire.specs.Told.{bits}

abbrev pub refusal_field : Reply → ℕ
refusal_field (answered values) = 0
refusal_field (refused n carries) = n

abbrev pub shape_field : Reply → ℕ
shape_field (answered values) = 0
shape_field (refused n carries) = get_or carries 0 0

abbrev pub first_field : Reply → ℕ
first_field (answered values) = bits (get_or values 0 (pos 0))
first_field (refused n carries) = get_or carries 1 0

abbrev pub second_field : Reply → ℕ
second_field (answered values) = bits (get_or values 1 (pos 0))
second_field (refused n carries) = get_or carries 2 0

-- a byte, a byte, two bytes, two bytes
abbrev pub fields : ℕ → ℕ → ℕ → ℕ → ℕ
fields refusal shape first second = refusal + 256 * shape + 65536 * first + 4294967296 * second

abbrev pub packed : Reply → ℕ
packed r = fields (refusal_field r) (shape_field r) (first_field r) (second_field r)

pub record Fits (r : Reply) : Type 0 where
  pub refusal-fits : refusal_field r < 256
  pub shape-fits : shape_field r < 256
  pub first_fits : first_field r < 65536
  pub second_fits : second_field r < 65536

-- ---- meaning

pub record Unpacked (n : ℕ) (r : Reply) : Type 0 where
  pub refusal_is : n % 256 ≡ refusal_field r
  pub shape_is : n / 256 % 256 ≡ shape_field r
  pub first-is : n / 65536 % 65536 ≡ first_field r
  pub second_is : n / 4294967296 % 65536 ≡ second_field r
  pub rest-is : n / 281474976710656 ≡ 0

pub packed-back : (r : Reply) → Fits r → Unpacked (packed r) r
packed-back r f = record {
  refusal_is = omega (arith, f.refusal-fits);
  shape_is = omega (arith, f.refusal-fits, f.shape-fits);
  first-is = omega (arith, f.refusal-fits, f.shape-fits, f.first_fits);
  second_is = omega (arith, f.refusal-fits, f.shape-fits, f.first_fits, f.second_fits);
  rest-is = omega (arith, f.refusal-fits, f.shape-fits, f.first_fits, f.second_fits);
}
