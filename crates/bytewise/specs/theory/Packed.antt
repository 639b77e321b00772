-- The numbers of a reply, packed.
--     placed            the first value of a reply in its numbers
--     bounded           the parts of a reply with narrow numbers
--     packed-parts      they are the fields of `packed`: what a refusal carries, plus the values of an answer
--     narrow            a question whose fields have room has narrow numbers
use Rattle.std.specs.Prelude.{◌≡◌, refl, List, [], ◌∷◌, ◌++◌, ℕ, ◌+◌, ◌*◌, ◌<◌, length, get_or}
use Rattle.std.proofs.Common.{ap, arith}
use Rattle.plane.specs.Reply.{Reply, answered, refused}
use Rattle.plane.specs.Question.{Question, reply}
use Rattle.wire.specs.Told.{crossed}
use Rattle.bytewise.specs.Packing.{refusal_field, shape_field, first_field, second_field, Fits}
use Rattle.bytewise.specs.Passing.{Narrow, Packs}

-- ---- fields

record Fielded (r : Reply) : Type 0 where
  number_is : get_or (crossed r) 0 0 ≡ refusal_field r
  shape_is : get_or (crossed r) 1 0 ≡ shape_field r
  first-is : get_or (crossed r) 2 0 + get_or (crossed r) 5 0 ≡ first_field r
  second_is : get_or (crossed r) 3 0 + get_or (crossed r) 6 0 ≡ second_field r

fielded : (r : Reply) → Fielded r
fielded (answered []) = record { number_is = refl; shape_is = refl; first-is = refl; second_is = refl }
fielded (answered (v ∷ [])) = record { number_is = refl; shape_is = refl; first-is = omega arith; second_is = refl }
fielded (answered (v ∷ w ∷ vs)) = record { number_is = refl; shape_is = refl; first-is = omega arith; second_is = omega arith }
fielded (refused n []) = record { number_is = refl; shape_is = refl; first-is = refl; second_is = refl }
fielded (refused n (a ∷ [])) = record { number_is = refl; shape_is = refl; first-is = refl; second_is = refl }
fielded (refused n (a ∷ b ∷ [])) = record { number_is = refl; shape_is = refl; first-is = omega arith; second_is = refl }
fielded (refused n (a ∷ b ∷ c ∷ cs)) = record { number_is = refl; shape_is = refl; first-is = omega arith; second_is = omega arith }

pub narrow : (q : Question) {ns : List ℕ} → ns ≡ crossed (reply q) → Fits (reply q) → Narrow ns
narrow q e f =
    let is = fielded (reply q) in
    rw e (record {
      number_fits = omega (arith, f.refusal-fits, is.number_is);
      shape-fits = omega (arith, f.shape-fits, is.shape_is);
      first_fits = omega (arith, f.first_fits, is.first-is);
      second_fits = omega (arith, f.second_fits, is.second_is);
    })

-- ---- parts of a reply: its number n, three carried numbers, a count k and values

module _ (n k : ℕ) (vs : List ℕ) where
  pub placed : (cs : List ℕ) → length cs ≡ 3 → get_or vs 0 0 ≡ get_or (n ∷ cs ++ (k ∷ vs)) 5 0
  placed [] h = absurd (omega arith)
  placed (a ∷ []) h = absurd (omega arith)
  placed (a ∷ b ∷ []) h = absurd (omega arith)
  placed (a ∷ b ∷ c ∷ []) h = refl
  placed (a ∷ b ∷ c ∷ d ∷ cs) h = absurd (omega arith)

  pub bounded : (cs : List ℕ) → length cs ≡ 3 → Narrow (n ∷ cs ++ (k ∷ vs))
      → (n < 256) × (get_or cs 0 0 < 256) × (get_or cs 1 0 + get_or vs 0 0 < 65536) × (get_or cs 2 0 + get_or vs 1 0 < 65536)
  bounded [] h b = absurd (omega arith)
  bounded (a ∷ []) h b = absurd (omega arith)
  bounded (a ∷ b ∷ []) h s = absurd (omega arith)
  bounded (a ∷ b ∷ c ∷ []) h s = (s.number_fits, s.shape-fits, s.first_fits, s.second_fits)
  bounded (a ∷ b ∷ c ∷ d ∷ cs) h s = absurd (omega arith)

  pub packed-parts : (cs : List ℕ) → length cs ≡ 3
      → Packs (n ∷ cs ++ (k ∷ vs))
      (n + 256 * get_or cs 0 0 + 65536 * (get_or cs 1 0 + get_or vs 0 0) + 4294967296 * (get_or cs 2 0 + get_or vs 1 0))
  packed-parts [] h r e = absurd (omega arith)
  packed-parts (a ∷ []) h r e = absurd (omega arith)
  packed-parts (a ∷ b ∷ []) h r e = absurd (omega arith)
  packed-parts (a ∷ b ∷ c ∷ []) h r e =
      let is = fielded r in
      let at : (i : ℕ) → get_or (n ∷ a ∷ b ∷ c ∷ k ∷ vs) i 0 ≡ get_or (crossed r) i 0 = λ i. ap (λ (ns : List ℕ). get_or ns i 0) e in
      omega (arith, at 0, at 1, at 2, at 3, at 5, at 6, is.number_is, is.shape_is, is.first-is, is.second_is)
  packed-parts (a ∷ b ∷ c ∷ d ∷ cs) h r e = absurd (omega arith)
