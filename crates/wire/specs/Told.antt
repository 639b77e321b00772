-- A reply as the numbers that a host is told: an answer's values, or a refusal's number and what it carries.
--     padded k l      k numbers: those of the list, and 0 where it has fewer
--     bits z          a whole number in 64 bits, one below 0 as its two's complement
--     crossed r       0 or the refusal's number; three carried numbers; how many are meant; nine values
--     numbers r       the fields of the struct that crosses, in their order
-- What it means: a reply is read back from its numbers, `Meaning.antt`.
use Rattle.std.specs.Prelude.{List, [], ◌∷◌, ◌++◌, map, ℕ, zero, suc, ℤ, length}
use Rattle.std.specs.Int.{w64}
use Rattle.std.proofs.Common.{of_z}
use Rattle.plane.specs.Reply.{Reply as Said, answered, refused}
use Rattle.wire.specs.declared.Reply.{Reply}

abbrev pub padded : ℕ → List ℕ → List ℕ
padded zero l = []
padded (suc k) [] = 0 ∷ padded k []
padded (suc k) (n ∷ l) = n ∷ padded k l

abbrev pub bits : ℤ → ℕ
bits z = of_z w64 z

abbrev pub crossed : Said → List ℕ
crossed (answered vs) = 0 ∷ padded 3 [] ++ (length vs ∷ padded 9 (map bits vs))
crossed (refused n c) = n ∷ padded 3 c ++ (length c ∷ padded 9 [])

abbrev pub numbers : Reply → List ℕ
numbers r = r.number ∷ r.carried ++ (r.count ∷ r.values)
