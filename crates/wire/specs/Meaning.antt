-- What the numbers of a reply mean. The theorems are proved in the theory; here they are only cited.
use Rattle.std.specs.Prelude.{◌≡◌, refl, List, map, ℕ, ◌≤◌, ℤ, pos, length}
use Rattle.std.specs.Int.{w64}
use Rattle.std.proofs.Common.{SFits, to_z, to_z-of_z}
use Rattle.plane.specs.Reply.{Reply, answered, refused}
use Rattle.wire.specs.Told.{bits, crossed}
use Rattle.wire.specs.Heard.{number_of, count_of, carried_of, values_of, heard, Signed}
use Rattle.wire.specs.theory.ReadBack.{refused-back, answered-back, heard-back, same-reply}

-- ---- a reply is read back from its numbers

pub refusal-read-back : (n : ℕ) (c : List ℕ) → length c ≤ 3
    → (number_of (crossed (refused n c)) ≡ n) × (count_of (crossed (refused n c)) ≡ length c) × (carried_of (crossed (refused n c)) ≡ c)
refusal-read-back n c h = refused-back n c h

pub answer-read-back : (vs : List ℤ) → length vs ≤ 9
    → (number_of (crossed (answered vs)) ≡ 0) × (count_of (crossed (answered vs)) ≡ length vs)
    × (values_of (crossed (answered vs)) ≡ map bits vs)
answer-read-back vs h = answered-back vs h

-- a value that is not below 0 is its own bits; one that fits 64 bits with a sign is read from them with its sign
pub unsigned-read-back : (n : ℕ) → bits (pos n) ≡ n
unsigned-read-back n = refl

pub signed-read-back : (z : ℤ) → SFits w64 z → to_z w64 (bits z) ≡ z
signed-read-back z f = to_z-of_z f

pub reply-read-back : (r : Reply) → Signed r → heard (crossed r) ≡ r
reply-read-back r f = heard-back r f

-- replies with the same numbers are the same, so that a promise about the numbers is one about the reply
pub reply-known : (r s : Reply) → Signed r → Signed s → crossed r ≡ crossed s → r ≡ s
reply-known r s f g e = same-reply r s f g e
