-- What putting a value before those of an answer does. Our own, not of documents 01 and 02.
--     Preceded value r s     if r tells an answer, s tells the answer with the value before the others
use Rattle.std.specs.Prelude.{◌≡◌, List, ◌∷◌, ℕ, ℤ, pos}
use Rattle.plane.specs.Reply.{answered}
use Rattle.wire.specs.Told.{crossed, numbers}
use Rattle.wire.specs.declared.Reply.{Reply}

abbrev pub Preceded : ℕ → Reply → Reply → Type 0
Preceded value r s = (vs : List ℤ) → numbers r ≡ crossed (answered vs) → numbers s ≡ crossed (answered (pos value ∷ vs))
