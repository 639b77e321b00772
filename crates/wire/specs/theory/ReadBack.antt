-- A reply is read back from its numbers.
--     padded-front, padded-next       the list at the front of what it is padded to, and what comes after that
--     refused-back, answered-back     number, count, and what is carried or answered
--     signed_back                     signed values from their bits; `heard-back`: the whole reply
use Rattle.std.specs.Prelude.{◌≡◌, refl, List, [], ◌∷◌, ◌++◌, map, ℕ, zero, suc, ◌≤◌, ℤ, length, take, get_or}
use Rattle.std.proofs.Common.{sym, ◌∙◌, ap, ap₂, arith, ne_eqb, to_z, to_z-of_z}
use Rattle.std.specs.Int.{w64}
use Rattle.plane.specs.Reply.{Reply, answered, refused}
use Rattle.wire.specs.Told.{padded, bits, crossed}
use Rattle.wire.specs.Heard.{number_of, count_of, carried_of, values_of, heard, AllSigned, Signed}

pub padded-front : (k : ℕ) (l more : List ℕ) → length l ≤ k → take (length l) (padded k l ++ more) ≡ l
padded-front zero [] more h = refl
padded-front zero (n ∷ l) more h = absurd (omega arith)
padded-front (suc k) [] more h = refl
padded-front (suc k) (n ∷ l) more h = ap (λ (m : List ℕ). n ∷ m) (padded-front k l more (omega arith))

pub padded-next : (k : ℕ) (l : List ℕ) (x : ℕ) (more : List ℕ) → get_or (padded k l ++ (x ∷ more)) k 0 ≡ x
padded-next zero l x more = refl
padded-next (suc k) [] x more = padded-next k [] x more
padded-next (suc k) (n ∷ l) x more = padded-next k l x more

pub refused-back : (n : ℕ) (c : List ℕ) → length c ≤ 3
    → (number_of (crossed (refused n c)) ≡ n) × (count_of (crossed (refused n c)) ≡ length c) × (carried_of (crossed (refused n c)) ≡ c)
refused-back n c h =
    let all = padded 3 c ++ (length c ∷ padded 9 []) in
    let count = padded-next 3 c (length c) (padded 9 []) in
    (refl, count, ap (λ (k : ℕ). take k all) count ∙ padded-front 3 c (length c ∷ padded 9 []) h)

length-bits : (vs : List ℤ) → length (map bits vs) ≡ length vs
length-bits [] = refl
length-bits (v ∷ vs) = ap suc (length-bits vs)

append-nil : (l : List ℕ) → l ++ [] ≡ l
append-nil [] = refl
append-nil (n ∷ l) = ap (λ (m : List ℕ). n ∷ m) (append-nil l)

pub answered-back : (vs : List ℤ) → length vs ≤ 9
    → (number_of (crossed (answered vs)) ≡ 0) × (count_of (crossed (answered vs)) ≡ length vs)
    × (values_of (crossed (answered vs)) ≡ map bits vs)
answered-back vs h =
    let same = length-bits vs in (
      refl,
      refl,
      ap₂ (λ (k : ℕ) (l : List ℕ). take k l) (sym same) (sym (append-nil (padded 9 (map bits vs))))
          ∙ padded-front 9 (map bits vs) [] (omega arith),
    )

pub signed_back : (vs : List ℤ) → AllSigned vs → map (to_z w64) (map bits vs) ≡ vs
signed_back [] f = refl
signed_back (v ∷ vs) f = ap₂ (λ (z : ℤ) (l : List ℤ). z ∷ l) (to_z-of_z f.0) (signed_back vs f.1)

-- ---- the whole reply

pub heard-back : (r : Reply) → Signed r → heard (crossed r) ≡ r
heard-back (answered vs) s = ap answered (ap (λ (l : List ℕ). map (to_z w64) l) (answered-back vs s.0).2 ∙ signed_back vs s.1)
heard-back (refused n c) s =
    rw (ne_eqb n 0 (λ e. omega (arith, s.0))) (ap (refused n) (refused-back n c s.1).2)

pub same-reply : (r s : Reply) → Signed r → Signed s → crossed r ≡ crossed s → r ≡ s
same-reply r s f g e = sym (heard-back r f) ∙ ap heard e ∙ heard-back s g
