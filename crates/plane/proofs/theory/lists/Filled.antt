-- Writing an answer into a lent output, number by number: the invariant of every loop that does.
--     Filled old answer k out    the first k numbers of the answer are at the front, and all after them is as it was
--     filled-start, -put         nothing is written yet; one more number
--     filled-corner              one more corner of an answer that is a list of corners
--     filled-done                all is written: the output is the one that contracts speak of
--     filled-length              the output is as long as it was
use Rattle.std.specs.Prelude.{◌≡◌, refl, List, ◌∷◌, ◌++◌, ℕ, suc, ◌+◌, ◌*◌, ◌≤◌, ◌<◌, ℤ, pos, length, take, drop, set, get_or}
use Rattle.std.proofs.Common.{sym, ◌∙◌, ap, add-one, arith, length-append, length-drop, length-take-le, take-suc, drop-cons}
use Rattle.std.proofs.Math.Seq.{take-length, append_snoc}
use Rattle.std.proofs.lemmas.List.{set_at}
use Rattle.plane.specs.Point.{Point, numbers, corner}
use Rattle.plane.specs.Output.{overwritten}
use Rattle.plane.proofs.theory.lists.Flat.{points-numbers, numbers-length, points-x, points-y}

pub record Filled (old answer : List ℤ) (k : ℕ) (out : List ℤ) : Type 0 where
  pub front : out ≡ take k answer ++ drop k old

pub filled-start : (old answer : List ℤ) → Filled old answer 0 old
filled-start old answer = record { front = refl }

pub filled_put : {old answer out : List ℤ} {k : ℕ} {v : ℤ} → Filled old answer k out → k < length answer → k < length old
    → v ≡ get_or answer k (pos 0) → Filled old answer (k + 1) (set out k v)
filled_put {old} {answer} {out} {k} {v} f h l e = record {
  front =
      ap (λ (xs : List ℤ). set xs k v) (f.front ∙ ap (λ (xs : List ℤ). take k answer ++ xs) (drop-cons old k (pos 0) l))
      ∙ set_at (take k answer) _ (drop (suc k) old) v k (length-take-le k answer (omega arith))
      ∙ ap (λ (z : ℤ). take k answer ++ z ∷ drop (suc k) old) e
      ∙ sym (append_snoc (take k answer) (get_or answer k (pos 0)) (drop (suc k) old))
      ∙ ap (λ (xs : List ℤ). xs ++ drop (suc k) old) (sym (take-suc answer k (pos 0) h))
      ∙ ap (λ (n : ℕ). take n answer ++ drop n old) (sym (add-one k));
}

pub filled-length : {old answer out : List ℤ} {k : ℕ} → Filled old answer k out → k ≤ length answer → k ≤ length old
    → length out ≡ length old
filled-length {old} {answer} {out} {k} f h l =
    omega (arith, ap length f.front ∙ length-append (take k answer) (drop k old), length-take-le k answer h, length-drop k old)

pub filled-done : {old answer out : List ℤ} {k : ℕ} → Filled old answer k out → k ≡ length answer → out ≡ overwritten answer old
unfolding overwritten
filled-done {old} {answer} {out} {k} f e =
    f.front ∙ ap (λ (n : ℕ). take n answer ++ drop n old) e ∙ ap (λ (xs : List ℤ). xs ++ drop (length answer) old) (take-length answer)

-- ---- an answer that is a list of corners

module _ (ps : List Point) (n : ℕ) (h : n < length ps) where
  number-x : (corner ps n).x ≡ get_or (numbers ps) (2 * n) (pos 0)
  number-x = ap (λ (qs : List Point). (corner qs n).x) (sym (points-numbers ps)) ∙ points-x (numbers ps) n (rw (points-numbers ps) h)

  number-y : (corner ps n).y ≡ get_or (numbers ps) (2 * n + 1) (pos 0)
  number-y = ap (λ (qs : List Point). (corner qs n).y) (sym (points-numbers ps)) ∙ points-y (numbers ps) n (rw (points-numbers ps) h)

pub filled-corner : {old out : List ℤ} (ps : List Point) (n : ℕ) {x y : ℤ} → Filled old (numbers ps) (2 * n) out → n < length ps
    → length (numbers ps) ≤ length old → x ≡ (corner ps n).x → y ≡ (corner ps n).y
    → Filled old (numbers ps) (2 * (n + 1)) (set (set out (2 * n) x) (2 * n + 1) y)
filled-corner {old} {out} ps n {x} {y} f h l p q = record { front = both.front ∙ ap (λ (k : ℕ). take k (numbers ps) ++ drop k old) twice }
  where
    twice : 2 * n + 1 + 1 ≡ 2 * (n + 1)
    twice = omega arith

    both : Filled old (numbers ps) (2 * n + 1 + 1) (set (set out (2 * n) x) (2 * n + 1) y)
    both = filled_put (filled_put f (omega (arith, numbers-length ps)) (omega (arith, numbers-length ps)) (p ∙ number-x ps n h))
        (omega (arith, numbers-length ps)) (omega (arith, numbers-length ps)) (q ∙ number-y ps n h)
