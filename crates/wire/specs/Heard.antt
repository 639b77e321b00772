-- How a host reads a reply from its numbers. Our own, not of documents 01 and 02.
--     number_of ns, count_of ns     0 or the refusal's number; how many numbers are meant
--     carried_of ns, values_of ns   what a refusal carries; the bits of an answer's values
--     heard ns                    the whole reply, each value read with a sign
--     Room r                      a refusal has a number and carries at most 3; an answer has at most 9 values
--     Signed r                    it has room, and each value fits 64 bits with a sign
-- What it means: `Meaning.antt`.
use Rattle.std.specs.Prelude.{cond, List, [], ◌∷◌, map, ℕ, ◌≤◌, ◌<◌, eqb, ℤ, length, take, drop, get_or}
use Rattle.std.specs.Int.{w64}
use Rattle.std.proofs.Common.{SFits, to_z}
use Rattle.plane.specs.Reply.{Reply, answered, refused}

abbrev pub number_of : List ℕ → ℕ
number_of ns = get_or ns 0 0

abbrev pub count_of : List ℕ → ℕ
count_of ns = get_or ns 4 0

abbrev pub carried_of : List ℕ → List ℕ
carried_of ns = take (count_of ns) (drop 1 ns)

abbrev pub values_of : List ℕ → List ℕ
values_of ns = take (count_of ns) (drop 5 ns)

abbrev pub heard : List ℕ → Reply
heard ns = cond (eqb (number_of ns) 0) (answered (map (to_z w64) (values_of ns))) (refused (number_of ns) (carried_of ns))

abbrev pub Room : Reply → Type 0
Room (answered vs) = length vs ≤ 9
Room (refused n c) = (0 < n) × (length c ≤ 3)

abbrev pub AllSigned : List ℤ → Type 0
AllSigned [] = Unit {0}
AllSigned (v ∷ vs) = SFits w64 v × AllSigned vs

abbrev pub Signed : Reply → Type 0
Signed (answered vs) = (length vs ≤ 9) × AllSigned vs
Signed (refused n c) = (0 < n) × (length c ≤ 3)
