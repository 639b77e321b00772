-- What functions that tell an answer share.
--     told          an answer that is known to be a case is told as that case
--     kept-bits     a signed field is read back from its bits before a function is given it: its bits are those of the field
use Rattle.std.specs.Prelude.{◌≡◌, refl, ℕ, ◌^◌, ◌<◌, ℤ}
use Rattle.std.proofs.Common.{sym, ◌∙◌, ap}
use Rattle.std.specs.Int.Signed.{mag}
use Rattle.std.specs.Int.{Width}
use mir.Val.{hbits, to_z, of_z}
use Rattle.plane.specs.Reply.{Reply}
use Rattle.integer.specs.Machine.{result-is}
use Rattle.wire.specs.Told.{bits, crossed}

pub told : {A : Type 0} (of : A → Reply) {x y : A} → x ≡ y → crossed (of y) ≡ crossed (of x)
told of e = sym (ap (λ a. crossed (of a)) e)

pub kept-bits : (w : Width) (z : ℤ) {n : ℕ} → mag z < 2 ^ hbits w → n ≡ bits (to_z w (of_z w z)) → n ≡ bits z
kept-bits w z h e = e ∙ ap bits (result-is w {x = z} h refl)
