-- The opposites of the numbers of a list, and of its corners.
--     negated-front      the opposites of the first numbers are those of the first corners; `negated-rest`: of the last
--     pasted-twice       two lists written one after the other, from the start of the output on
use Rattle.std.specs.Prelude.{◌≡◌, refl, List, [], ◌∷◌, ◌++◌, map, ℕ, zero, suc, ◌+◌, ◌*◌, ◌-◌, ◌≤◌, ℤ, neg_ℤ, length, take, drop}
use Rattle.std.proofs.Common.{sym, ◌∙◌, ap, ap₂, arith, length-append, length-drop, take_all, drop-drop, length-take-le}
use Rattle.std.proofs.Math.Seq.{paste}
use Rattle.std.proofs.lemmas.List.Edits.{take-paste, drop-paste}
use Rattle.plane.specs.Point.{points, numbers}
use Rattle.plane.specs.Corner.{mirrored}
use Rattle.plane.specs.Output.{overwritten}

-- two numbers on for each corner
two-each : (n : ℕ) → 2 * suc n ≡ suc (suc (2 * n))
two-each n = omega arith

points-drop : (n : ℕ) (l : List ℤ) → n ≤ length (points l) → points (drop (2 * n) l) ≡ drop n (points l)
points-drop zero l h = refl
points-drop (suc n) [] h = absurd (omega arith)
points-drop (suc n) (a ∷ []) h = absurd (omega arith)
points-drop (suc n) (a ∷ (b ∷ l)) h = ap (λ (k : ℕ). points (drop k (a ∷ b ∷ l))) (two-each n) ∙ points-drop n l (omega arith)

pub negated-front : (n : ℕ) (l : List ℤ) → n ≤ length (points l) → take (2 * n) (map neg_ℤ l) ≡ numbers (mirrored (take n (points l)))
negated-front zero l h = refl
negated-front (suc n) [] h = absurd (omega arith)
negated-front (suc n) (a ∷ []) h = absurd (omega arith)
negated-front (suc n) (a ∷ (b ∷ l)) h =
    ap (λ (k : ℕ). take k (neg_ℤ a ∷ neg_ℤ b ∷ map neg_ℤ l)) (two-each n)
    ∙ ap (λ (m : List ℤ). neg_ℤ a ∷ neg_ℤ b ∷ m) (negated-front n l (omega arith))

pub negated-rest : (n : ℕ) (l : List ℤ) → n ≤ length (points l)
    → take (2 * (length (points l) - n)) (map neg_ℤ (drop (2 * n) l)) ≡ numbers (mirrored (drop n (points l)))
negated-rest n l h =
    let rest = points-drop n l h in
    let all : length (drop n (points l)) ≤ length (points l) - n = omega (arith, length-drop n (points l)) in
    negated-front (length (points l) - n) (drop (2 * n) l) (omega (arith, ap length rest, length-drop n (points l)))
    ∙ ap (λ ps. numbers (mirrored (take (length (points l) - n) ps))) rest
    ∙ ap (λ ps. numbers (mirrored ps)) (take_all (length (points l) - n) (drop n (points l)) all)

pub pasted-twice : (old u v : List ℤ) (m n : ℕ) → m ≤ length u → n ≤ length v → (one two : List ℤ) → one ≡ paste old 0 u m
    → two ≡ paste one m v n → two ≡ overwritten (take m u ++ take n v) old
unfolding overwritten
pasted-twice old u v m n h k one two e f =
    let here : 0 + m ≡ m = omega arith in
    let front : take m one ≡ take m u =
    ap₂ take (sym here) e ∙ take-paste old 0 u m (omega arith) h in
    let rest : drop (m + n) one ≡ drop (m + n) old =
    sym (drop-drop n m one)
    ∙ ap (drop n) (ap₂ drop (sym here) e ∙ drop-paste old 0 u m (omega arith) h ∙ ap (λ (i : ℕ). drop i old) here)
    ∙ drop-drop n m old in
    let count : m + n ≡ length (take m u ++ take n v) =
    omega (arith, length-append (take m u) (take n v), length-take-le m u h, length-take-le n v k) in
    f ∙ ap₂ (λ (l r : List ℤ). l ++ take n v ++ r) front rest ∙ ap (λ (i : ℕ). take m u ++ take n v ++ drop i old) count
